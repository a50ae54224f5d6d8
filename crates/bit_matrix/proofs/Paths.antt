-- Paths whose inner nodes lie in a range, and how they are found node by node and block by block.
use Rattle.std.proofs.Common.{◌≡◌, ◌≢◌, ℕ, ◌+◌, ◌-◌, ◌<◌, ◌≤◌, true, false, List, [], ◌∷◌, ◌++◌, refl, sym, ◌∙◌, subst, inl, inr, arith}
use Rattle.std.specs.Prelude.{◌⊎◌, ◌↔◌}
use Rattle.std.proofs.lemmas.Bool.{cases_lt, cases_eq, true≢false}
use Rattle.bit_addressing.specs.Bits.{has_bit}
use Rattle.bit_matrix.specs.Matrix.{AreWithin, IsClosed, IsPath, IsPathOver, IsWalk, LeadsOver}

-- `now` says of each two nodes whether a path leads from one to the other over nodes of a range
pub record ArePathsOver (edge now : ℕ → ℕ → Type 0) (low high : ℕ) : Type 0 where
  pub paths : (i j : ℕ) → now i j ↔ IsPathOver edge low high i j

-- two walks, one after the other
walks_joined : (edge : ℕ → ℕ → Type 0) (i : ℕ) (before : List ℕ) (k : ℕ) (beyond : List ℕ) (j : ℕ) → IsWalk edge i before k → IsWalk edge k beyond j → IsWalk edge i (before ++ k ∷ beyond) j
walks_joined edge i [] k beyond j to from = (to, from)
walks_joined edge i (x ∷ xs) k beyond j to from = (to.0, walks_joined edge x xs k beyond j to.1 from)

within_joined : (low high : ℕ) (xs ys : List ℕ) → AreWithin low high xs → AreWithin low high ys → AreWithin low high (xs ++ ys)
within_joined low high [] ys in_x in_y = in_y
within_joined low high (x ∷ xs) ys in_x in_y = (in_x.0, in_x.1, within_joined low high xs ys in_x.2 in_y)

widened : (low high low′ high′ : ℕ) (nodes : List ℕ) → low′ ≤ low → high ≤ high′ → AreWithin low high nodes → AreWithin low′ high′ nodes
widened low high low′ high′ [] down up are = tt
widened low high low′ high′ (x ∷ xs) down up are = ((let h = are.0 in omega arith), (let h = are.1 in omega arith), widened low high low′ high′ xs down up are.2)

-- a path to a node of the range, and one from there
paths_joined : (edge : ℕ → ℕ → Type 0) (low high i k j : ℕ) → low ≤ k → k < high → IsPathOver edge low high i k → IsPathOver edge low high k j → IsPathOver edge low high i j
paths_joined edge low high i k j least inside to from = (to.0 ++ k ∷ from.0, (within_joined low high to.0 (k ∷ from.0) to.1.0 (least, inside, from.1.0), walks_joined edge i to.0 k from.0 j to.1.1 from.1.1))

path_widened : (edge : ℕ → ℕ → Type 0) (low high low′ high′ i j : ℕ) → low′ ≤ low → high ≤ high′ → IsPathOver edge low high i j → IsPathOver edge low′ high′ i j
path_widened edge low high low′ high′ i j down up path = (path.0, (widened low high low′ high′ path.0 down up path.1.0, path.1.1))

-- a walk over nodes up to k is one over nodes below k, or has one to k and one from there
walk_cut : (edge : ℕ → ℕ → Type 0) (low k i : ℕ) (between : List ℕ) (j : ℕ) → AreWithin low (k + 1) between → IsWalk edge i between j → IsPathOver edge low k i j ⊎ (IsPathOver edge low k i k × IsPathOver edge low k k j)
walk_cut edge low k i [] j are walk = inl ([], (tt, walk))
walk_cut edge low k i (x ∷ xs) j are walk =
    let rest = walk_cut edge low k x xs j are.2 walk.1 in
    elim (cases_lt x k) [
      | inl less ↦ elim rest [
        | inl p ↦ inl (x ∷ p.0, ((are.0, less, p.1.0), (walk.0, p.1.1)))
        | inr p ↦ inr ((x ∷ p.0.0, ((are.0, less, p.0.1.0), (walk.0, p.0.1.1))), p.1)
      ]
      | inr up ↦
          let here : x ≡ k = (let h = are.1 in omega arith) in
          let first : IsPathOver edge low k i k = ([], (tt, subst (λ v. edge i v) here walk.0)) in
          elim rest [
            | inl p ↦ inr (first, subst (λ v. IsPathOver edge low k v j) here p)
            | inr p ↦ inr (first, p.1)
          ]
    ]

-- a walk over no node is an edge
walk_alone : (edge : ℕ → ℕ → Type 0) (low i : ℕ) (between : List ℕ) (j : ℕ) → AreWithin low low between → IsWalk edge i between j → edge i j
walk_alone edge low i [] j are walk = walk
walk_alone edge low i (x ∷ xs) j are walk = absurd (let h = are.0 in let k = are.1 in omega arith)

-- paths over no nodes are the edges
pub edge_alone : (edge : ℕ → ℕ → Type 0) → ArePathsOver edge edge 0 0
edge_alone edge = record { paths = λ i j. (λ e. ([], (tt, e)), λ path. walk_alone edge 0 i path.0 j path.1.0 path.1.1) }

all_inside : (edge : ℕ → ℕ → Type 0) (n : ℕ) → ((x y : ℕ) → edge x y → x < n) → (i : ℕ) (between : List ℕ) (j : ℕ) → IsWalk edge i between j → AreWithin 0 n between
all_inside edge n inside i [] j walk = tt
all_inside edge n inside i (x ∷ xs) j walk = (omega arith, begins x xs walk.1, all_inside edge n inside x xs j walk.1)
  where
    begins : (x : ℕ) (xs : List ℕ) → IsWalk edge x xs j → x < n
    begins x [] w = inside x j w
    begins x (y ∷ ys) w = inside x y w.0

-- where edges begin below n alone, the paths over nodes below n are all paths
pub all_paths : (edge now : ℕ → ℕ → Type 0) (n : ℕ) → ((x y : ℕ) → edge x y → x < n) → ArePathsOver edge now 0 n → (i j : ℕ) → now i j ↔ IsPath edge i j
all_paths edge now n inside is i j = (λ here. (let p = (is.paths i j).0 here in (p.0, p.1.1)), λ path. (is.paths i j).1 (path.0, (all_inside edge n inside i path.0 j path.1, path.1)))

-- ---- one middle node: the rows from `low` on, and below r, have been led through k

pub record AreLed (old now : ℕ → ℕ → Type 0) (k low r : ℕ) : Type 0 where
  pub led : (i j : ℕ) → now i j ↔ (old i j ⊎ ((low ≤ i) × (i < r) × old i k × old k j))

-- row r, where it has an edge to k, is led on too
pub row_more : (old now new : ℕ → ℕ → Type 0) (k low r : ℕ) → low ≤ r → AreLed old now k low r → ((i j : ℕ) → new i j ↔ (now i j ⊎ ((i ≡ r) × now r k × now k j))) → AreLed old new k low (r + 1)
row_more old now new k low r past was is =
    let from : (x : ℕ) → now k x → old k x = λ x e. elim ((was.led k x).0 e) [ inl o ↦ o | inr t ↦ t.3 ] in
    let to : now r k → old r k = λ e. elim ((was.led r k).0 e) [ inl o ↦ o | inr t ↦ t.2 ] in
    record {
      led = λ i j. (
        λ e. elim ((is i j).0 e) [
          | inl n ↦ elim ((was.led i j).0 n) [ inl o ↦ inl o | inr t ↦ inr (t.0, (let h = t.1 in omega arith), t.2, t.3) ]
          | inr t ↦ inr ((let h = t.0 in omega arith), (let h = t.0 in omega arith), subst (λ x. old x k) (sym t.0) (to t.1), from j t.2)
        ],
        λ w. (is i j).1 (elim w [
          | inl o ↦ inl ((was.led i j).1 (inl o))
          | inr t ↦ elim (cases_lt i r) [
            | inl less ↦ inl ((was.led i j).1 (inr (t.0, less, t.2, t.3)))
            | inr up ↦
                let here : i ≡ r = (let h = t.1 in omega arith) in
                inr (here, (was.led r k).1 (inl (subst (λ x. old x k) here t.2)), (was.led k j).1 (inl t.3))
          ]
        ]),
      );
    }

-- ---- a block: its rows have the paths over its nodes below k, and the other rows are what they were

pub record IsClosing (edge now : ℕ → ℕ → Type 0) (low high k : ℕ) : Type 0 where
  pub inside : (i j : ℕ) → low ≤ i → i < high → now i j ↔ IsPathOver edge low k i j
  pub outside : (i j : ℕ) → (i < low) ⊎ (high ≤ i) → now i j ↔ edge i j

-- before the first node of a block nothing is closed
pub none_closed : (edge : ℕ → ℕ → Type 0) (low high : ℕ) → IsClosing edge edge low high low
none_closed edge low high = record {
  inside = λ i j _ _. (λ e. ([], (tt, e)), λ path. walk_alone edge low i path.0 j path.1.0 path.1.1);
  outside = λ i j _. (λ e. e, λ e. e);
}

-- Warshall's step: the rows of the block are led through k
pub one_node_more : (edge old new : ℕ → ℕ → Type 0) (low high k : ℕ) → low ≤ k → k < high → IsClosing edge old low high k → AreLed old new k low high → IsClosing edge new low high (k + 1)
one_node_more edge old new low high k least below was is = record {
  inside = λ i j from upto. (
    λ here. elim ((is.led i j).0 here) [
      | inl o ↦ path_widened edge low k low (k + 1) i j (omega arith) (omega arith) ((was.inside i j from upto).0 o)
      | inr o ↦
          let wide : (a b : ℕ) → IsPathOver edge low k a b → IsPathOver edge low (k + 1) a b = λ a b. path_widened edge low k low (k + 1) a b (omega arith) (omega arith) in
          paths_joined edge low (k + 1) i k j least (omega arith) (wide i k ((was.inside i k from upto).0 o.2)) (wide k j ((was.inside k j least below).0 o.3))
    ],
    λ path. (is.led i j).1 (elim (walk_cut edge low k i path.0 j path.1.0 path.1.1) [
      | inl p ↦ inl ((was.inside i j from upto).1 p)
      | inr p ↦ inr (from, upto, (was.inside i k from upto).1 p.0, (was.inside k j least below).1 p.1)
    ]),
  );
  outside = λ i j out. (
    λ here. elim ((is.led i j).0 here) [
      | inl o ↦ (was.outside i j out).0 o
      | inr o ↦ absurd (elim out [ inl low ↦ (let h = o.0 in omega arith) | inr high ↦ (let h = o.1 in omega arith) ])
    ],
    λ e. (is.led i j).1 (inl ((was.outside i j out).1 e)),
  );
}

-- after its last node a block is closed
pub block_closed : (edge now : ℕ → ℕ → Type 0) (low high : ℕ) → IsClosing edge now low high high → IsClosed now low high
block_closed edge now low high is = record {
  leads = λ a b j a_from a_upto b_from b_upto to from. (is.inside a j a_from a_upto).1 (paths_joined edge low high a b j b_from b_upto ((is.inside a b a_from a_upto).0 to) ((is.inside b j b_from b_upto).0 from));
}

-- ---- one row, led through the closed block: the nodes of the set bits of `chunk` are left

pub record IsLeading (old now : ℕ → ℕ → Type 0) (row low high chunk : ℕ) : Type 0 where
  pub others : (i j : ℕ) → i ≢ row → now i j ↔ old i j
  pub kept : (j : ℕ) → old row j → now row j
  pub sound : (j : ℕ) → now row j → old row j ⊎ LeadsOver old low high row j
  pub left : (p : ℕ) → has_bit chunk p ≡ true → (low + p < high) × old row (low + p)
  pub done : (m : ℕ) → low ≤ m → m < high → old row m → (has_bit chunk (m - low) ≡ true) ⊎ ((j : ℕ) → old m j → now row j)

-- the bits read of a row are the nodes of the block that it leads to, but for those that lead nowhere
pub row_read : (old : ℕ → ℕ → Type 0) (row low high chunk : ℕ) → ((p : ℕ) → has_bit chunk p ≡ true → (low + p < high) × old row (low + p))
    → ((p : ℕ) → low + p < high → old row (low + p) → (has_bit chunk p ≡ true) ⊎ ((j : ℕ) → old (low + p) j → ⊥)) → IsLeading old old row low high chunk
row_read old row low high chunk left done = record {
  others = λ i j _. (λ e. e, λ e. e);
  kept = λ j e. e;
  sound = λ j e. inl e;
  left = left;
  done = λ m from upto leads. (
      let same : low + (m - low) ≡ m = omega arith in
      elim (done (m - low) (omega arith) (subst (λ x. old row x) (sym same) leads)) [
        | inl set ↦ inl set
        | inr none ↦ inr (λ j e. absurd (none j (subst (λ x. old x j) (sym same) e)))
      ]
      );
}

module _ (old now : ℕ → ℕ → Type 0) (row low high chunk : ℕ) (closed : IsClosed old low high) (was : IsLeading old now row low high chunk) where
  -- the rows of the block are what they were, the row itself too where it is one of them
  block_same : (b j : ℕ) → low ≤ b → b < high → now b j → old b j
  block_same b j from upto leads = elim (cases_eq b row) [
    | inl e ↦
        let here : old row j ⊎ LeadsOver old low high row j = was.sound j (subst (λ x. now x j) e leads) in
        subst (λ x. old x j) (sym e) (elim here [
          | inl o ↦ o
          | inr t ↦ closed.leads row t.0 j (omega arith) (omega arith) t.1.0 t.1.1 t.1.2 t.1.3
        ])
    | inr n ↦ (was.others b j n).0 leads
  ]

  block_kept : (b j : ℕ) → old b j → now b j
  block_kept b j leads = elim (cases_eq b row) [
    | inl e ↦ subst (λ x. now x j) (sym e) (was.kept j (subst (λ x. old x j) e leads))
    | inr n ↦ (was.others b j n).1 leads
  ]

  -- the block stays closed while its rows are led
  pub middle_more : (new : ℕ → ℕ → Type 0) (place covered rest : ℕ) → has_bit chunk place ≡ true → ((i j : ℕ) → new i j ↔ (now i j ⊎ ((i ≡ row) × now (low + place) j))) → ((p : ℕ) → has_bit covered p ≡ true → now (low + place) (low + p))
      → ((p : ℕ) → has_bit rest p ≡ true → has_bit chunk p ≡ true) → ((p : ℕ) → has_bit chunk p ≡ true → (has_bit rest p ≡ true) ⊎ ((p ≡ place) ⊎ (has_bit covered p ≡ true))) → IsLeading old new row low high rest
  middle_more new place covered rest set is inner fewer parts =
      let at = was.left place set in
      let from : low ≤ low + place = omega arith in
      let through : (j : ℕ) → old (low + place) j → new row j = λ j e. (is row j).1 (inr (refl, block_kept (low + place) j e)) in
      record {
        others = λ i j apart. (
          λ e. elim ((is i j).0 e) [ inl n ↦ (was.others i j apart).0 n | inr t ↦ absurd (apart t.0) ],
          λ o. (is i j).1 (inl ((was.others i j apart).1 o)),
        );
        kept = λ j o. (is row j).1 (inl (was.kept j o));
        sound = λ j e. elim ((is row j).0 e) [
          | inl n ↦ was.sound j n
          | inr t ↦ inr (low + place, (from, at.0, at.1, block_same (low + place) j from at.0 t.1))
        ];
        left = λ p more. was.left p (fewer p more);
        done = λ m least upto leads. elim (was.done m least upto leads) [
          | inr all ↦ inr (λ j e. (is row j).1 (inl (all j e)))
          | inl waits ↦ elim (parts (m - low) waits) [
            | inl still ↦ inl still
            | inr gone ↦
                let same : low + (m - low) ≡ m = omega arith in
                inr (λ j e. elim gone [
                  | inl here ↦ (let is_middle : m ≡ low + place = omega arith in through j (subst (λ x. old x j) is_middle e))
                  | inr inside ↦
                      let edge : old (low + place) m = block_same (low + place) m from at.0 (subst (λ x. now (low + place) x) same (inner (m - low) inside)) in
                      through j (closed.leads (low + place) m j from at.0 least upto edge e)
                ])
          ]
        ];
      }

-- no node is left
pub row_led : (old now : ℕ → ℕ → Type 0) (row low high chunk : ℕ) → ((p : ℕ) → has_bit chunk p ≡ false) → IsLeading old now row low high chunk → (i j : ℕ) → now i j ↔ (old i j ⊎ ((i ≡ row) × LeadsOver old low high row j))
row_led old now row low high chunk none was i j = (
  λ e. elim (cases_eq i row) [
    | inl here ↦ elim (was.sound j (subst (λ x. now x j) here e)) [ inl o ↦ inl (subst (λ x. old x j) (sym here) o) | inr t ↦ inr (here, t) ]
    | inr apart ↦ inl ((was.others i j apart).0 e)
  ],
  λ w. elim w [
    | inl o ↦ elim (cases_eq i row) [
      | inl here ↦ subst (λ x. now x j) (sym here) (was.kept j (subst (λ x. old x j) here o))
      | inr apart ↦ (was.others i j apart).1 o
    ]
    | inr t ↦ subst (λ x. now x j) (sym t.0) (elim (was.done t.1.0 t.1.1.0 t.1.1.1 t.1.1.2) [
      | inl waits ↦ absurd (true≢false (sym waits ∙ none (t.1.0 - low)))
      | inr all ↦ all j t.1.1.3
    ])
  ],
)

-- ---- the rows below r, led through the closed block

pub record AreLedOver (old now : ℕ → ℕ → Type 0) (low high r : ℕ) : Type 0 where
  pub led : (i j : ℕ) → now i j ↔ (old i j ⊎ ((i < r) × LeadsOver old low high i j))

module _ (old now : ℕ → ℕ → Type 0) (low high r : ℕ) (closed : IsClosed old low high) (was : AreLedOver old now low high r) where
  -- edges that are new inside a block were there once it was closed
  pub inner : (b j : ℕ) → low ≤ b → b < high → now b j → old b j
  inner b j from upto leads = elim ((was.led b j).0 leads) [ inl o ↦ o | inr t ↦ closed.leads b t.1.0 j from upto t.1.1.0 t.1.1.1 t.1.1.2 t.1.1.3 ]

  -- the block stays closed
  pub still_closed : IsClosed now low high
  still_closed = record {
    leads = λ a b j a_from a_upto b_from b_upto to from. (was.led a j).1 (inl (closed.leads a b j a_from a_upto b_from b_upto (inner a b a_from a_upto to) (inner b j b_from b_upto from)));
  }

  -- one row more leads over the block
  pub row_over : (new : ℕ → ℕ → Type 0) → ((i j : ℕ) → new i j ↔ (now i j ⊎ ((i ≡ r) × LeadsOver now low high r j))) → AreLedOver old new low high (r + 1)
  row_over new is =
      let first : (x : ℕ) → now r x → old r x = λ x e. elim ((was.led r x).0 e) [ inl o ↦ o | inr t ↦ absurd (let h = t.0 in omega arith) ] in
      record {
        led = λ i j. (
          λ e. elim ((is i j).0 e) [
            | inl n ↦ elim ((was.led i j).0 n) [ inl o ↦ inl o | inr t ↦ inr ((let h = t.0 in omega arith), t.1) ]
            | inr t ↦ inr ((let h = t.0 in omega arith), subst (λ x. LeadsOver old low high x j) (sym t.0) (t.1.0, (t.1.1.0, t.1.1.1, first t.1.0 t.1.1.2, inner t.1.0 j t.1.1.0 t.1.1.1 t.1.1.3)))
          ],
          λ w. (is i j).1 (elim w [
            | inl o ↦ inl ((was.led i j).1 (inl o))
            | inr t ↦ elim (cases_lt i r) [
              | inl less ↦ inl ((was.led i j).1 (inr (less, t.1)))
              | inr up ↦
                  let here : i ≡ r = (let h = t.0 in omega arith) in
                  inr (here, (t.1.0, (t.1.1.0, t.1.1.1, (was.led r t.1.0).1 (inl (subst (λ x. old x t.1.0) here t.1.1.2)), (was.led t.1.0 j).1 (inl t.1.1.3))))
            ]
          ]),
        );
      }

-- all rows have been led through the block: their edges are the paths over its nodes
pub all_led : (edge mid now : ℕ → ℕ → Type 0) (low high r n : ℕ) → ((x y : ℕ) → edge x y → x < n) → n ≤ r → IsClosing edge mid low high high → AreLedOver mid now low high r → ArePathsOver edge now low high
all_led edge mid now low high r n inside past closing led = record {
  paths = λ i j. (
    λ e. elim ((led.led i j).0 e) [ inl m ↦ path_of i j m | inr t ↦ paths_joined edge low high i t.1.0 j t.1.1.0 t.1.1.1 (path_of i t.1.0 t.1.1.2) (path_of t.1.0 j t.1.1.3) ],
    λ path. leads i path.0 j path.1.0 path.1.1,
  );
}
  where
    path_of : (i j : ℕ) → mid i j → IsPathOver edge low high i j
    path_of i j leads = elim (cases_lt i low) [
      | inl before ↦ ([], (tt, (closing.outside i j (inl before)).0 leads))
      | inr from ↦ elim (cases_lt i high) [
        | inl upto ↦ (closing.inside i j from upto).0 leads
        | inr after ↦ ([], (tt, (closing.outside i j (inr after)).0 leads))
      ]
    ]

    mid_of : (i j : ℕ) → edge i j → mid i j
    mid_of i j e = elim (cases_lt i low) [
      | inl before ↦ (closing.outside i j (inl before)).1 e
      | inr from ↦ elim (cases_lt i high) [
        | inl upto ↦ (closing.inside i j from upto).1 ([], (tt, e))
        | inr after ↦ (closing.outside i j (inr after)).1 e
      ]
    ]

    leads : (i : ℕ) (between : List ℕ) (j : ℕ) → AreWithin low high between → IsWalk edge i between j → now i j
    leads i [] j are walk = (led.led i j).1 (inl (mid_of i j walk))
    leads i (k ∷ ks) j are walk = (led.led i j).1 (inr ((let h = inside i k walk.0 in omega arith), (k, (are.0, are.1, mid_of i k walk.0, (closing.inside k j are.0 are.1).1 (ks, (are.2, walk.1))))))

-- ---- one block more

-- a walk whose steps are paths over nodes below `low`
module _ (edge old : ℕ → ℕ → Type 0) (low high : ℕ) (less : low ≤ high) (was : ArePathsOver edge old 0 low) where
  flat : (i : ℕ) (between : List ℕ) (j : ℕ) → AreWithin low high between → IsWalk old i between j → IsPathOver edge 0 high i j
  flat i [] j are walk = path_widened edge 0 low 0 high i j (omega arith) less ((was.paths i j).0 walk)
  flat i (k ∷ ks) j are walk = paths_joined edge 0 high i k j (omega arith) are.1 (path_widened edge 0 low 0 high i k (omega arith) less ((was.paths i k).0 walk.0)) (flat k ks j are.2 walk.1)

  -- an edge to a node below `low` before a path that begins there
  led_to : (i k : ℕ) → k < low → edge i k → (between : List ℕ) (j : ℕ) → AreWithin low high between → IsWalk old k between j → IsPathOver old low high i j
  led_to i k below e [] j are walk = ([], (tt, (let p = (was.paths k j).0 walk in (was.paths i j).1 (k ∷ p.0, ((omega arith, below, p.1.0), (e, p.1.1))))))
  led_to i k below e (x ∷ xs) j are walk = (x ∷ xs, (are, ((let p = (was.paths k x).0 walk.0 in (was.paths i x).1 (k ∷ p.0, ((omega arith, below, p.1.0), (e, p.1.1)))), walk.1)))

  grouped : (i : ℕ) (between : List ℕ) (j : ℕ) → AreWithin 0 high between → IsWalk edge i between j → IsPathOver old low high i j
  grouped i [] j are walk = ([], (tt, (was.paths i j).1 ([], (tt, walk))))
  grouped i (k ∷ ks) j are walk =
      let rest = grouped k ks j are.2 walk.1 in
      elim (cases_lt k low) [
        | inl below ↦ led_to i k below walk.0 rest.0 j rest.1.0 rest.1.1
        | inr from ↦ (k ∷ rest.0, ((from, are.1, rest.1.0), ((was.paths i k).1 ([], (tt, walk.0)), rest.1.1)))
      ]

  -- paths over one block more are those led over it
  pub one_block_more : (new : ℕ → ℕ → Type 0) → ArePathsOver old new low high → ArePathsOver edge new 0 high
  one_block_more new is = record {
    paths = λ i j. (λ e. (let p = (is.paths i j).0 e in flat i p.0 j p.1.0 p.1.1), λ path. (is.paths i j).1 (grouped i path.0 j path.1.0 path.1.1));
  }
