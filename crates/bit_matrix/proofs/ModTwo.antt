-- Sums and products mod 2 of square matrices, as functions of a row and a column.
use Rattle.std.proofs.Common.{◌≡◌, ◌≢◌, ℕ, zero, suc, ◌<◌, ◌≤◌, Bool, true, false, not, ◌&&◌, refl, sym, ◌∙◌, ap, inl, inr, arith, ltb, eq-eqb}
use Rattle.std.proofs.lemmas.Bool.{cases_eq, cases_lt, ne_eqb, lt-ltb, le-ltb, true≢false}
use Rattle.std.specs.Prelude.{◌==◌}
use Rattle.bit_slice.proofs.Sets.{and_false}
use Rattle.bit_matrix.specs.Elimination.{AreLinked, AreUnits, IsAdded}
use Rattle.bit_matrix.specs.Matrix.{plus_mod_2 as plus, sum_mod_2 as sum_below}

-- false added changes nothing
pub plus_false : (x : Bool) → plus x false ≡ x
plus_false true = refl
plus_false false = refl

-- a value added to itself is false
pub plus_same : (x : Bool) → plus x x ≡ false
plus_same true = refl
plus_same false = refl

-- addition does not depend on the order
pub plus_comm : (x y : Bool) → plus x y ≡ plus y x
plus_comm true true = refl
plus_comm true false = refl
plus_comm false true = refl
plus_comm false false = refl

-- addition does not depend on the grouping
pub plus_assoc : (x y z : Bool) → plus (plus x y) z ≡ plus x (plus y z)
plus_assoc true true true = refl
plus_assoc true true false = refl
plus_assoc true false z = refl
plus_assoc false y z = refl

plus_middle : (a b c d : Bool) → plus (plus a b) (plus c d) ≡ plus (plus a c) (plus b d)
plus_middle a b c d = plus_assoc a b (plus c d) ∙ ap (plus a) (sym (plus_assoc b c d) ∙ ap (λ x. plus x d) (plus_comm b c) ∙ plus_assoc c b d) ∙ sym (plus_assoc a c (plus b d))

-- a product with a sum is the sum of the products, the sum on the right
pub and_plus : (c x y : Bool) → (c && plus x y) ≡ plus (c && x) (c && y)
and_plus true x y = refl
and_plus false x y = refl

-- a product with a sum is the sum of the products, the sum on the left
pub plus_and : (x y c : Bool) → (plus x y && c) ≡ plus (x && c) (y && c)
plus_and true true true = refl
plus_and true true false = refl
plus_and true false c = sym (plus_false (true && c))
plus_and false y c = refl

-- a product with true changes nothing
pub and_one : (x : Bool) → (x && true) ≡ x
and_one true = refl
and_one false = refl

-- products do not depend on the grouping
pub and_assoc : (a b c : Bool) → ((a && b) && c) ≡ (a && (b && c))
and_assoc true b c = refl
and_assoc false b c = refl

-- equal values have equal sums
pub sums_same : (f g : ℕ → Bool) (n : ℕ) → ((k : ℕ) → k < n → f k ≡ g k) → sum_below f n ≡ sum_below g n
sums_same f g zero same = refl
sums_same f g (suc n) same = ap (λ x. plus x (f n)) (sums_same f g n (λ k h. same k (omega arith))) ∙ ap (plus (sum_below g n)) (same n (omega arith))

-- a sum of falses is false
pub sum_none : (n : ℕ) → sum_below (λ k. false) n ≡ false
sum_none zero = refl
sum_none (suc n) = plus_false (sum_below (λ k. false) n) ∙ sum_none n

-- the sum of sums
pub sums_added : (f g : ℕ → Bool) (n : ℕ) → sum_below (λ k. plus (f k) (g k)) n ≡ plus (sum_below f n) (sum_below g n)
sums_added f g zero = refl
sums_added f g (suc n) = ap (λ x. plus x (plus (f n) (g n))) (sums_added f g n) ∙ plus_middle (sum_below f n) (sum_below g n) (f n) (g n)

-- a factor of each value is one of the sum
pub sum_times : (c : Bool) (f : ℕ → Bool) (n : ℕ) → sum_below (λ k. c && f k) n ≡ (c && sum_below f n)
sum_times c f zero = sym (and_false c)
sum_times c f (suc n) = ap (λ x. plus x (c && f n)) (sum_times c f n) ∙ sym (and_plus c (sum_below f n) (f n))

-- a factor of each summand is a factor of the sum
pub times_sum : (c : Bool) (f : ℕ → Bool) (n : ℕ) → sum_below (λ k. f k && c) n ≡ (sum_below f n && c)
times_sum c f zero = refl
times_sum c f (suc n) = ap (λ x. plus x (f n && c)) (times_sum c f n) ∙ sym (plus_and (sum_below f n) (f n) c)

-- sums of a table by rows and by columns
pub sums_turned : (f : ℕ → ℕ → Bool) (m n : ℕ) → sum_below (λ i. sum_below (λ j. f i j) m) n ≡ sum_below (λ j. sum_below (λ i. f i j) n) m
sums_turned f m zero = sym (sum_none m)
sums_turned f m (suc n) = ap (λ x. plus x (sum_below (λ j. f n j) m)) (sums_turned f m n) ∙ sym (sums_added (λ j. sum_below (λ i. f i j) n) (λ j. f n j) m)

-- a row, a matrix and a column: the products in either order
pub three : (x : ℕ → Bool) (y : ℕ → ℕ → Bool) (z : ℕ → Bool) (n : ℕ) → sum_below (λ j. sum_below (λ k. x k && y k j) n && z j) n ≡ sum_below (λ k. x k && sum_below (λ j. y k j && z j) n) n
three x y z n =
    sums_same (λ j. sum_below (λ k. x k && y k j) n && z j) (λ j. sum_below (λ k. x k && (y k j && z j)) n) n
    (λ j h. sym (times_sum (z j) (λ k. x k && y k j) n) ∙ sums_same (λ k. (x k && y k j) && z j) (λ k. x k && (y k j && z j)) n (λ k l. and_assoc (x k) (y k j) (z j)))
    ∙ sums_turned (λ j k. x k && (y k j && z j)) n n
    ∙ sums_same (λ k. sum_below (λ j. x k && (y k j && z j)) n) (λ k. x k && sum_below (λ j. y k j && z j) n) n
    (λ k h. sum_times (x k) (λ j. y k j && z j) n)

-- a sum of which one value alone counts
pub sum_one : (f : ℕ → Bool) (p n : ℕ) → p < n → sum_below (λ k. (p == k) && f k) n ≡ f p
sum_one f p zero inside = absurd (omega arith)
sum_one f p (suc n) inside = elim (cases_eq p n) [
  | inl last ↦
      ap (λ x. plus x ((p == n) && f n)) (sums_same (λ k. (p == k) && f k) (λ k. false) n (λ k h. ap (λ b. b && f k) (ne_eqb p k (omega arith))) ∙ sum_none n)
      ∙ ap (λ b. b && f n) (eq-eqb p n last) ∙ ap f (sym last)
  | inr apart ↦
      ap (plus (sum_below (λ k. (p == k) && f k) n)) (ap (λ b. b && f n) (ne_eqb p n apart)) ∙ plus_false (sum_below (λ k. (p == k) && f k) n) ∙ sum_one f p n (omega arith)
]

eqb_turned : (a b : ℕ) → (a == b) ≡ (b == a)
eqb_turned a b = elim (cases_eq a b) [
  | inl same ↦ eq-eqb a b same ∙ sym (eq-eqb b a (sym same))
  | inr apart ↦ ne_eqb a b apart ∙ sym (ne_eqb b a (λ e. apart (sym e)))
]

-- the same with the factor after it
pub one_sum : (f : ℕ → Bool) (p n : ℕ) → p < n → sum_below (λ k. f k && (k == p)) n ≡ f p
one_sum f p n inside = sums_same (λ k. f k && (k == p)) (λ k. (p == k) && f k) n (λ k h. and_turned (f k) (k == p) ∙ ap (λ b. b && f k) (eqb_turned k p)) ∙ sum_one f p n inside
  where
    and_turned : (a b : Bool) → (a && b) ≡ (b && a)
    and_turned true true = refl
    and_turned true false = refl
    and_turned false true = refl
    and_turned false false = refl

-- ---- elimination

-- the identity links a matrix with itself
pub linked_first : (a w r : ℕ → ℕ → Bool) (n : ℕ) → ((i j : ℕ) → i < n → j < n → w i j ≡ a i j) → ((i j : ℕ) → i < n → j < n → r i j ≡ (i == j)) → AreLinked a w r n
linked_first a w r n same one = record {
  made = λ i j h l. same i j h l ∙ sym (sums_same (λ k. r i k && a k j) (λ k. (i == k) && a k j) n (λ k m. ap (λ b. b && a k j) (one i k h m)) ∙ sum_one (λ k. a k j) i n h);
  undone = (λ i j. i == j, λ i j h l. sum_one (λ k. r k j) i n h ∙ one i j h l);
}

module _ (a w r v q : ℕ → ℕ → Bool) (n into from : ℕ) (linked : AreLinked a w r n) (inside : into < n) (within : from < n) (apart : into ≢ from) (work : IsAdded w v n into from) (other : IsAdded r q n into from) where
  made_more : (i j : ℕ) → i < n → j < n → v i j ≡ sum_below (λ k. q i k && a k j) n
  made_more i j h l = elim (cases_eq i into) [
    | inl here ↦
        ap (λ x. v x j) here ∙ work.here j l ∙ ap (λ x. plus x (w from j)) (linked.made into j inside l) ∙ ap (plus (sum_below (λ k. r into k && a k j) n)) (linked.made from j within l)
        ∙ sym (sums_added (λ k. r into k && a k j) (λ k. r from k && a k j) n)
        ∙ sums_same (λ k. plus (r into k && a k j) (r from k && a k j)) (λ k. q i k && a k j) n
        (λ k m. sym (plus_and (r into k) (r from k) (a k j)) ∙ ap (λ b. b && a k j) (sym (other.here k m) ∙ ap (λ x. q x k) (sym here)))
    | inr away ↦ work.others i j h l away ∙ linked.made i j h l ∙ sums_same (λ k. r i k && a k j) (λ k. q i k && a k j) n (λ k m. ap (λ b. b && a k j) (sym (other.others i k h m away)))
  ]

  -- what undoes the new rows: the column of the row that was added has that of the other added
  undoes : (ℕ → ℕ → Bool) → ℕ → ℕ → Bool
  undoes s i k = plus (s i k) ((from == k) && s i into)

  term : (s : ℕ → ℕ → Bool) (i j k : ℕ) → j < n → k < n → (undoes s i k && q k j) ≡ plus (s i k && r k j) (plus ((from == k) && (s i into && r from j)) ((into == k) && (s i into && r from j)))
  unfolding undoes
  term s i j k l m = elim (cases_eq from k) [
    | inl here ↦
        let away : into ≢ k = λ e. apart (e ∙ sym here) in
        ap (λ b. plus (s i k) (b && s i into) && q k j) (eq-eqb from k here) ∙ ap (λ b. plus (s i k) (s i into) && b) (other.others k j m l (λ e. away (sym e)))
        ∙ plus_and (s i k) (s i into) (r k j)
        ∙ ap (λ x. plus (s i k && r k j) (s i into && r x j)) (sym here)
        ∙ sym (ap (λ b. plus (s i k && r k j) (plus (b && (s i into && r from j)) ((into == k) && (s i into && r from j)))) (eq-eqb from k here)
        ∙ ap (λ b. plus (s i k && r k j) (plus (s i into && r from j) (b && (s i into && r from j)))) (ne_eqb into k away)
        ∙ ap (plus (s i k && r k j)) (plus_false (s i into && r from j)))
    | inr off ↦
        ap (λ b. plus (s i k) (b && s i into) && q k j) (ne_eqb from k off) ∙ ap (λ b. b && q k j) (plus_false (s i k))
        ∙ elim (cases_eq into k) [
          | inl at ↦
              ap (λ b. s i k && b) (ap (λ x. q x j) (sym at) ∙ other.here j l ∙ ap (λ x. plus (r x j) (r from j)) at)
              ∙ and_plus (s i k) (r k j) (r from j) ∙ ap (λ x. plus (s i k && r k j) (s i x && r from j)) (sym at)
              ∙ sym (ap (λ b. plus (s i k && r k j) (plus (b && (s i into && r from j)) ((into == k) && (s i into && r from j)))) (ne_eqb from k off)
              ∙ ap (λ b. plus (s i k && r k j) (b && (s i into && r from j))) (eq-eqb into k at))
          | inr away ↦
              ap (λ b. s i k && b) (other.others k j m l (λ e. away (sym e)))
              ∙ sym (ap (λ b. plus (s i k && r k j) (plus (b && (s i into && r from j)) ((into == k) && (s i into && r from j)))) (ne_eqb from k off)
              ∙ ap (λ b. plus (s i k && r k j) (b && (s i into && r from j))) (ne_eqb into k away) ∙ plus_false (s i k && r k j))
        ]
  ]

  undone_more : (s : ℕ → ℕ → Bool) → ((i j : ℕ) → i < n → j < n → sum_below (λ k. s i k && r k j) n ≡ (i == j)) → (i j : ℕ) → i < n → j < n → sum_below (λ k. undoes s i k && q k j) n ≡ (i == j)
  undone_more s was i j h l =
      let c : Bool = s i into && r from j in
      sums_same (λ k. undoes s i k && q k j) (λ k. plus (s i k && r k j) (plus ((from == k) && c) ((into == k) && c))) n (λ k m. term s i j k l m)
      ∙ sums_added (λ k. s i k && r k j) (λ k. plus ((from == k) && c) ((into == k) && c)) n
      ∙ ap (plus (sum_below (λ k. s i k && r k j) n))
      (sums_added (λ k. (from == k) && c) (λ k. (into == k) && c) n ∙ ap (λ x. plus x (sum_below (λ k. (into == k) && c) n)) (sum_one (λ k. c) from n within) ∙ ap (plus c) (sum_one (λ k. c) into n inside) ∙ plus_same c)
      ∙ plus_false (sum_below (λ k. s i k && r k j) n) ∙ was i j h l

  -- a row that is added to another in both keeps the link
  pub linked_more : AreLinked a v q n
  linked_more = record { made = made_more; undone = (undoes linked.undone.0, undone_more linked.undone.0 linked.undone.1) }

-- a column that gives 0 with w, where the columns below c are those of the identity and column c has no bit from row c on
abbrev column : (ℕ → ℕ → Bool) → ℕ → ℕ → Bool
column w c j = plus (j == c) (ltb j c && w j c)

column_gone : (w : ℕ → ℕ → Bool) (n c : ℕ) → c < n → ((i j : ℕ) → i < n → j < c → w i j ≡ (i == j)) → ((i : ℕ) → i < n → c ≤ i → w i c ≡ false) → (i : ℕ) → i < n → sum_below (λ j. w i j && column w c j) n ≡ false
column_gone w n c inside one none i h =
    sums_same (λ j. w i j && column w c j) (λ j. plus (w i j && (j == c)) (w i j && (ltb j c && w j c))) n (λ j l. and_plus (w i j) (j == c) (ltb j c && w j c))
    ∙ sums_added (λ j. w i j && (j == c)) (λ j. w i j && (ltb j c && w j c)) n
    ∙ ap (λ x. plus x (sum_below (λ j. w i j && (ltb j c && w j c)) n)) (one_sum (w i) c n inside)
    ∙ elim (cases_lt i c) [
      | inl low ↦
          ap (plus (w i c)) (sums_same (λ j. w i j && (ltb j c && w j c)) (λ j. (i == j) && w i c) n (λ j l. below j low) ∙ sum_one (λ j. w i c) i n h) ∙ plus_same (w i c)
      | inr up ↦
          ap (plus (w i c)) (sums_same (λ j. w i j && (ltb j c && w j c)) (λ j. false) n (λ j l. above j up) ∙ sum_none n) ∙ plus_false (w i c) ∙ none i h up
    ]
  where
    past : (j : ℕ) → c ≤ j → (w i j && (ltb j c && w j c)) ≡ false
    past j high = ap (λ b. w i j && (b && w j c)) (le-ltb j c high) ∙ and_false (w i j)

    within : (j : ℕ) → j < c → (w i j && (ltb j c && w j c)) ≡ ((i == j) && w j c)
    within j low = ap (λ b. w i j && (b && w j c)) (lt-ltb j c low) ∙ ap (λ b. b && w j c) (one i j h low)

    below : (j : ℕ) → i < c → (w i j && (ltb j c && w j c)) ≡ ((i == j) && w i c)
    below j less = elim (cases_eq i j) [
      | inl same ↦ within j (omega arith) ∙ ap (λ x. (i == j) && w x c) (sym same)
      | inr apart ↦ elim (cases_lt j c) [
        | inl low ↦ within j low ∙ ap (λ b. b && w j c) (ne_eqb i j apart) ∙ ap (λ b. b && w i c) (sym (ne_eqb i j apart))
        | inr high ↦ past j high ∙ ap (λ b. b && w i c) (sym (ne_eqb i j apart))
      ]
    ]

    above : (j : ℕ) → c ≤ i → (w i j && (ltb j c && w j c)) ≡ false
    above j up = elim (cases_lt j c) [
      | inl low ↦ within j low ∙ ap (λ b. b && w j c) (ne_eqb i j (omega arith))
      | inr high ↦ past j high
    ]

module _ (a w r : ℕ → ℕ → Bool) (n : ℕ) (linked : AreLinked a w r n) where
  -- what undoes r makes a of w
  pub made_back : (k j : ℕ) → k < n → j < n → a k j ≡ sum_below (λ l. linked.undone.0 k l && w l j) n
  made_back k j h m =
      sym (sum_one (λ i. a i j) k n h)
      ∙ sums_same (λ i. (k == i) && a i j) (λ i. sum_below (λ l. linked.undone.0 k l && r l i) n && a i j) n (λ i l. ap (λ b. b && a i j) (sym (linked.undone.1 k i h l)))
      ∙ three (linked.undone.0 k) r (λ i. a i j) n
      ∙ sums_same (λ l. linked.undone.0 k l && sum_below (λ i. r l i && a i j) n) (λ l. linked.undone.0 k l && w l j) n (λ l p. ap (λ b. linked.undone.0 k l && b) (sym (linked.made l j p m)))

  -- where w is the identity, r is the inverse of a on both sides
  pub inverse_left : ((i j : ℕ) → i < n → j < n → w i j ≡ (i == j)) → (i j : ℕ) → i < n → j < n → sum_below (λ k. r i k && a k j) n ≡ (i == j)
  inverse_left one i j h l = sym (linked.made i j h l) ∙ one i j h l

  -- once the working matrix is the identity, its link is the inverse on the right
  pub inverse_right : ((i j : ℕ) → i < n → j < n → w i j ≡ (i == j)) → (i j : ℕ) → i < n → j < n → sum_below (λ k. a i k && r k j) n ≡ (i == j)
  inverse_right one i j h l =
      sums_same (λ k. a i k && r k j) (λ k. linked.undone.0 i k && r k j) n
      (λ k m. ap (λ b. b && r k j) (made_back i k h m ∙ sums_same (λ p. linked.undone.0 i p && w p k) (λ p. linked.undone.0 i p && (p == k)) n (λ p o. ap (λ b. linked.undone.0 i p && b) (one p k o m)) ∙ one_sum (linked.undone.0 i) k n m))
      ∙ linked.undone.1 i j h l

  -- where a column that is not 0 gives 0 with w, no matrix is an inverse of a
  no_inverse : (v : ℕ → Bool) (c : ℕ) → c < n → v c ≡ true → ((i : ℕ) → i < n → sum_below (λ j. w i j && v j) n ≡ false) → (b : ℕ → ℕ → Bool) → ((i j : ℕ) → i < n → j < n → sum_below (λ k. b i k && a k j) n ≡ (i == j)) → ⊥
  no_inverse v c inside set gone b is =
      let zero_of : (k : ℕ) → k < n → sum_below (λ j. a k j && v j) n ≡ false = λ k h.
      sums_same (λ j. a k j && v j) (λ j. sum_below (λ l. linked.undone.0 k l && w l j) n && v j) n (λ j l. ap (λ x. x && v j) (made_back k j h l))
      ∙ three (linked.undone.0 k) w v n
      ∙ sums_same (λ l. linked.undone.0 k l && sum_below (λ j. w l j && v j) n) (λ l. false) n (λ l m. ap (λ x. linked.undone.0 k l && x) (gone l m) ∙ and_false (linked.undone.0 k l))
      ∙ sum_none n in
      let back : v c ≡ false =
      sym (sum_one v c n inside)
      ∙ sums_same (λ j. (c == j) && v j) (λ j. sum_below (λ k. b c k && a k j) n && v j) n (λ j l. ap (λ x. x && v j) (sym (is c j inside l)))
      ∙ three (b c) a v n
      ∙ sums_same (λ k. b c k && sum_below (λ j. a k j && v j) n) (λ k. false) n (λ k h. ap (λ x. b c k && x) (zero_of k h) ∙ and_false (b c k))
      ∙ sum_none n in
      true≢false (sym set ∙ back)

  -- where the columns below c are those of the identity, and column c has no bit from row c on, there is no inverse
  pub stuck : (c : ℕ) → c < n → ((i j : ℕ) → i < n → j < c → w i j ≡ (i == j)) → ((i : ℕ) → i < n → c ≤ i → w i c ≡ false) → (b : ℕ → ℕ → Bool) → ((i j : ℕ) → i < n → j < n → sum_below (λ k. b i k && a k j) n ≡ (i == j)) → ⊥
  stuck c inside one none =
      no_inverse (column w c) c inside (ap (λ b. plus b (ltb c c && w c c)) (eq-eqb c c refl) ∙ ap (λ b. not (b && w c c)) (le-ltb c c (omega arith))) (column_gone w n c inside one none)

-- a row that is 0 in the columns below c leaves them when it is added
pub units_kept : (w v : ℕ → ℕ → Bool) (n c into from : ℕ) → c < n → into < n → from < n → c ≤ from → AreUnits w n c → IsAdded w v n into from → AreUnits v n c
units_kept w v n c into from inside at within late units added i j h l = elim (cases_eq i into) [
  | inl here ↦
      ap (λ x. v x j) here ∙ added.here j (omega arith) ∙ ap (λ x. plus x (w from j)) (units into j at l) ∙ ap (plus (into == j)) (units from j within l ∙ ne_eqb from j (omega arith))
      ∙ plus_false (into == j) ∙ ap (λ x. x == j) (sym here)
  | inr apart ↦ added.others i j h (omega arith) apart ∙ units i j h l
]
