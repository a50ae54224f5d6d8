-- Values of one kind, one after another.
use Rattle.std.proofs.Common.{◌≡◌, ℕ, zero, suc, ◌+◌, ◌<◌, Bool, List, [], ◌∷◌, ◌++◌, Some, append_assoc, append-nil, length, replicate, take, refl, sym, ◌∙◌, ap, arith}
use Rattle.std.proofs.lemmas.List.Elements.{All-append, All-nil}
use Rattle.std.proofs.lemmas.Option.{same_Some}
use Rattle.std.specs.Prelude.{All}
use Rattle.std.proofs.lemmas.List.{length-append, nil_from_length}
use Rattle.bit_streams.specs.Fields.{items_bits}

module _ {X : Type 0} (bits : X → List Bool) where
  -- the bits of one item more come after the others
  pub items_push : (xs : List X) (x : X) → items_bits bits (xs ++ x ∷ []) ≡ items_bits bits xs ++ bits x
  items_push [] x = append-nil (bits x)
  items_push (y ∷ xs) x = ap (λ l. bits y ++ l) (items_push xs x) ∙ sym (append_assoc (bits y) (items_bits bits xs) (bits x))

  -- those of a list in two parts
  pub items_joined : (xs ys : List X) → items_bits bits (xs ++ ys) ≡ items_bits bits xs ++ items_bits bits ys
  items_joined [] ys = refl
  items_joined (x ∷ xs) ys = ap (λ l. bits x ++ l) (items_joined xs ys) ∙ sym (append_assoc (bits x) (items_bits bits xs) (items_bits bits ys))

  -- the bits of the items up to one, and of those after it
  pub items_around : (xs front back : List X) (x : X) → xs ≡ (front ++ x ∷ []) ++ back → items_bits bits xs ≡ (items_bits bits front ++ bits x) ++ items_bits bits back
  items_around xs front back x is = ap (items_bits bits) is ∙ items_joined (front ++ x ∷ []) back ∙ ap (λ l. l ++ items_bits bits back) (items_push front x)

  -- one more value was written
  pub more_written : (old now new : List Bool) (xs : List X) (x : X) → now ≡ old ++ items_bits bits xs → new ≡ now ++ bits x → new ≡ old ++ items_bits bits (xs ++ x ∷ [])
  more_written old now new xs x is next = next ∙ ap (λ l. l ++ bits x) is ∙ append_assoc old (items_bits bits xs) (bits x) ∙ ap (λ l. old ++ l) (sym (items_push xs x))

  -- one more value was read
  pub more_read : (old now new : List Bool) (xs : List X) (x : X) → old ≡ items_bits bits xs ++ now → now ≡ bits x ++ new → old ≡ items_bits bits (xs ++ x ∷ []) ++ new
  more_read old now new xs x is next = is ∙ ap (λ l. items_bits bits xs ++ l) next ∙ sym (append_assoc (items_bits bits xs) (bits x) new) ∙ ap (λ l. l ++ new) (sym (items_push xs x))

  -- the values that are still to come
  pub record Coming (fits : X → Type 0) (xs items : List X) (rest more : List Bool) : Type 0 where
    pub left : List X
    pub is : xs ≡ items ++ left
    pub fit : All fits left
    pub bits_are : rest ≡ items_bits bits left ++ more

  -- the next of them
  pub record NextOf (fits : X → Type 0) (xs items : List X) (rest more : List Bool) : Type 0 where
    pub next : X
    pub left : List X
    pub is : xs ≡ (items ++ next ∷ []) ++ left
    pub fits_next : fits next
    pub fit : All fits left
    pub bits_are : rest ≡ bits next ++ (items_bits bits left ++ more)

  -- while fewer items are read than there are, one more is coming
  pub next_of : (fits : X → Type 0) (xs items : List X) (rest more : List Bool) → length items < length xs → Coming fits xs items rest more → NextOf fits xs items rest more
  next_of fits xs items rest more short c = by_left c.left c.is c.fit c.bits_are
    where
      by_left : (left : List X) → xs ≡ items ++ left → All fits left → rest ≡ items_bits bits left ++ more → NextOf fits xs items rest more
      by_left [] is fit bits_are = absurd (let e : length xs ≡ length items = ap length (is ∙ append-nil items) in omega arith)
      by_left (y ∷ ys) is fit bits_are = record {
        next = y;
        left = ys;
        is = is ∙ sym (append_assoc items (y ∷ []) ys);
        fits_next = fit 0 y (omega arith);
        fit = λ k d h. fit (suc k) d (omega arith);
        bits_are = bits_are ∙ append_assoc (bits y) (items_bits bits ys) more;
      }

  -- after the next item is read the others are coming
  pub coming_on : (fits : X → Type 0) (xs items after : List X) (rest left_over more : List Bool) (x : X) (n : NextOf fits xs items rest more) → x ≡ n.next → left_over ≡ items_bits bits n.left ++ more → after ≡ items ++ x ∷ [] → Coming fits xs after left_over more
  coming_on fits xs items after rest left_over more x n same are is = record {
    left = n.left;
    is = n.is ∙ ap (λ y. (items ++ y ∷ []) ++ n.left) (sym same) ∙ ap (λ l. l ++ n.left) (sym is);
    fit = n.fit;
    bits_are = are;
  }

  -- a property of one item is one of all of a single list
  pub all_one : (fits : X → Type 0) (x : X) → fits x → All fits (x ∷ [])
  all_one fits x h zero d below = h
  all_one fits x h (suc k) d below = absurd (omega arith)

  -- no value is still to come
  pub all_read : (fits : X → Type 0) (xs items : List X) (rest more : List Bool) → length items ≡ length xs → Coming fits xs items rest more → (items ≡ xs) × (rest ≡ more)
  all_read fits xs items rest more size c =
      let sum : length xs ≡ length items + length c.left = ap length c.is ∙ length-append items c.left in
      let none : c.left ≡ [] = nil_from_length c.left (omega arith) in
      (sym (c.is ∙ ap (λ l. items ++ l) none ∙ append-nil items), c.bits_are ∙ ap (λ l. items_bits bits l ++ more) none)

  -- some of n values were read: they come first, and whichever n values come first begin with them
  pub record SoFar (fits : X → Type 0) (old : List Bool) (n : ℕ) (items : List X) (now : List Bool) : Type 0 where
    pub found : old ≡ items_bits bits items ++ now
    pub fit : All fits items
    pub back : (xs : List X) → (more : List Bool) → length xs ≡ n → All fits xs → old ≡ items_bits bits xs ++ more → Coming fits xs items now more

  -- before the first item nothing is read
  pub none_so_far : (fits : X → Type 0) (old : List Bool) (n : ℕ) → SoFar fits old n [] old
  none_so_far fits old n = record {
    found = refl;
    fit = All-nil fits;
    back = λ xs more size fit e. record {
      left = xs;
      is = refl;
      fit = fit;
      bits_are = e;
    };
  }

  -- one more value was read, as whichever value comes first
  pub one_more : (fits : X → Type 0) (old : List Bool) (n : ℕ) (items : List X) (now new : List Bool) (x : X) → SoFar fits old n items now → length items < n → now ≡ bits x ++ new → fits x
      → ((y : X) → (more : List Bool) → fits y → now ≡ bits y ++ more → (Some x ≡ Some y) × (new ≡ more)) → SoFar fits old n (items ++ x ∷ []) new
  one_more fits old n items now new x s short next fit_x is_first = record {
    found = more_read old now new items x s.found next;
    fit = All-append fits items (x ∷ []) s.fit (all_one fits x fit_x);
    back = λ xs more size fit e.
        let m = next_of fits xs items now more (omega arith) (s.back xs more size fit e) in
        let b = is_first m.next (items_bits bits m.left ++ more) m.fits_next m.bits_are in
        coming_on fits xs items (items ++ x ∷ []) now new more x m (same_Some x m.next b.0) b.1 refl;
  }

  -- all are read
  pub read_all : (fits : X → Type 0) (old : List Bool) (n : ℕ) (items xs : List X) (now more : List Bool) → SoFar fits old n items now → length items ≡ n → length xs ≡ n → All fits xs → old ≡ items_bits bits xs ++ more → (items ≡ xs) × (now ≡ more)
  read_all fits old n items xs now more s size size_xs fit e = all_read fits xs items now more (size ∙ sym size_xs) (s.back xs more size_xs fit e)

  -- no value comes next where one is still to come
  pub none_next : (fits : X → Type 0) (old : List Bool) (n : ℕ) (items xs : List X) (now more : List Bool) → SoFar fits old n items now → length items < n → length xs ≡ n → All fits xs → old ≡ items_bits bits xs ++ more → NextOf fits xs items now more
  none_next fits old n items xs now more s short size fit e = next_of fits xs items now more (omega arith) (s.back xs more size fit e)

-- a list of one value has it first
pub first_taken : {X : Type 0} (n : ℕ) (x : X) → 0 < n → take 1 (replicate n x) ≡ x ∷ []
first_taken zero x some = absurd (omega arith)
first_taken (suc n) x some = refl
