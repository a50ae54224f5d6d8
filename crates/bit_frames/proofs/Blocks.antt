-- Whole runs of free frames, and the best of them.
use Rattle.std.proofs.Common.{◌≡◌, ◌≢◌, ℕ, zero, suc, ◌+◌, ◌-◌, ◌<◌, ◌≤◌, Bool, true, false, List, length, Option, Some, None, slice_get, refl, sym, subst, inl, inr, arith}
use Rattle.std.specs.Prelude.{◌⊎◌}
use Rattle.std.specs.Option.{IfNone, IfSome}
use Rattle.std.proofs.lemmas.Bool.{cases_lt, cases_eq}
use Rattle.std.proofs.lemmas.Option.{slice_get_within}
use Rattle.bit_frames.specs.FreeMap.{AreFree, IsBestBelow, IsBestFit, IsBlock, IsFree}
use Rattle.bit_frames.proofs.Frames.{other_bit}

-- what a search for the next run has found: it begins at `first`, after taken frames from `from` on, and ends at `end`
module _ (map : List Bool) (from first end : ℕ) (later : from ≤ first) (some : first < end) (edge : (from ≡ 0) ⊎ (IsFree map from → ⊥)) (taken : (j : ℕ) → from ≤ j → j < first → slice_get map j ≡ Some true) (free : (j : ℕ) → first ≤ j → j < end → IsFree map j) (stop : IsFree map end → ⊥) where
  is_block : IsBlock map first (end - first)
  is_block = record {
    some = omega arith;
    free = λ i h. free (first + i) (omega arith) (omega arith);
    before = λ k next here. elim (cases_lt k from) [
      | inl low ↦
          let at : first ≡ from = omega arith in
          elim edge [ inl none ↦ omega arith | inr e ↦ e (subst (λ j. IsFree map j) at (free first (omega arith) some)) ]
      | inr high ↦ other_bit (slice_get map k) (taken k high (omega arith)) here
    ];
    after = λ here. (let at : first + (end - first) ≡ end = omega arith in stop (subst (λ j. IsFree map j) at here));
  }

  -- it is the only one that begins in between
  blocks_below : (k m : ℕ) → k < end → IsBlock map k m → (k < from) ⊎ ((k ≡ first) × (m ≡ end - first))
  blocks_below k m below block = elim (cases_lt k from) [
    | inl low ↦ inl low
    | inr high ↦ elim (cases_lt k first) [
      | inl early ↦ (let here : k + 0 ≡ k = omega arith in absurd (other_bit (slice_get map k) (taken k high early) (subst (λ j. IsFree map j) here (block.free 0 block.some))))
      | inr l ↦ elim (cases_eq k first) [
        | inl at ↦ elim (cases_lt m (end - first)) [
          | inl short ↦ absurd (block.after (free (k + m) (omega arith) (omega arith)))
          | inr n ↦ elim (cases_lt (end - first) m) [
            | inl long ↦ (let up : k + (end - first) ≡ end = omega arith in absurd (stop (subst (λ j. IsFree map j) up (block.free (end - first) long))))
            | inr r ↦ inr (at, omega arith)
          ]
        ]
        | inr off ↦ (let apart : k ≢ first = off in absurd (block.before (k - 1) (omega arith) (free (k - 1) (omega arith) (omega arith))))
      ]
    ]
  ]

  -- the better of the best so far and this run is the best so far
  pub best_more : (count : ℕ) (best result : Option (ℕ × ℕ)) → IsBestBelow map count from best → (end - first < count → result ≡ best) → (count ≤ end - first → IfNone best (result ≡ Some (first, end - first)))
      → (count ≤ end - first → IfSome best (λ b. b.1 ≤ end - first → result ≡ best)) → (count ≤ end - first → IfSome best (λ b. end - first < b.1 → result ≡ Some (first, end - first))) → IsBestBelow map count end result
  best_more count None result was short alone kept shorter = elim (cases_lt (end - first) count) [
    | inl few ↦ subst (λ r. IsBestBelow map count end r) (sym (short few)) (λ k m below block. elim (blocks_below k m below block) [ inl low ↦ was k m low block | inr this ↦ (let e = this.1 in omega arith) ])
    | inr enough ↦
        subst (λ r. IsBestBelow map count end r) (sym (alone enough)) (
          some,
          is_block,
          enough,
          λ k m below block long. elim (blocks_below k m below block) [
            | inl low ↦ (let less = was k m low block in absurd (omega arith))
            | inr this ↦ inr (sym this.1, (let e = this.0 in omega arith))
          ],
        )
  ]
  best_more count (Some b) result was short alone kept shorter =
      let lower = was.0 in
      elim (cases_lt (end - first) count) [
        | inl few ↦
            subst (λ r. IsBestBelow map count end r) (sym (short few)) (
              omega arith,
              was.1,
              was.2,
              λ k m below block long. elim (blocks_below k m below block) [ inl low ↦ was.3 k m low block long | inr this ↦ (let e = this.1 in absurd (omega arith)) ],
            )
        | inr enough ↦ elim (cases_lt (end - first) b.1) [
          | inl less ↦
              subst (λ r. IsBestBelow map count end r) (sym (shorter enough less)) (
                some,
                is_block,
                enough,
                λ k m below block long. elim (blocks_below k m below block) [
                  | inl low ↦ elim (was.3 k m low block long) [ inl up ↦ inl (omega arith) | inr tie ↦ (let e = tie.0 in inl (omega arith)) ]
                  | inr this ↦ inr (sym this.1, (let e = this.0 in omega arith))
                ],
              )
          | inr more ↦
              subst (λ r. IsBestBelow map count end r) (sym (kept enough more)) (
                omega arith,
                was.1,
                was.2,
                λ k m below block long. elim (blocks_below k m below block) [
                  | inl low ↦ was.3 k m low block long
                  | inr this ↦
                      let e = this.0 in
                      let n = this.1 in
                      elim (cases_lt b.1 m) [ inl up ↦ inl up | inr same ↦ inr (omega arith, omega arith) ]
                ],
              )
        ]
      ]

-- whether a frame is free
free_or_not : (map : List Bool) (k : ℕ) → IsFree map k ⊎ (IsFree map k → ⊥)
free_or_not map k = tell (slice_get map k)
  where
    tell : (o : Option Bool) → (o ≡ Some false) ⊎ (o ≡ Some false → ⊥)
    tell None = inr (λ e. cc)
    tell (Some true) = inr (λ e. cc)
    tell (Some false) = inl refl

-- where the whole run around a free frame begins
begin_of : (map : List Bool) (k : ℕ) → IsFree map k → (s : ℕ) × ((s ≤ k) × ((j : ℕ) → s ≤ j → j ≤ k → IsFree map j) × ((j : ℕ) → j + 1 ≡ s → IsFree map j → ⊥))
begin_of map zero here = (0, (omega arith, (λ j low high. (let at : 0 ≡ j = omega arith in subst (λ x. IsFree map x) at here)), λ j next. absurd (omega arith)))
begin_of map (suc k) here = elim (free_or_not map k) [
  | inl more ↦
      let was = begin_of map k more in
      let low = was.1.0 in
      (was.0, (omega arith, (λ j from upto. elim (cases_lt k j) [ inl last ↦ (let at : suc k ≡ j = omega arith in subst (λ x. IsFree map x) at here) | inr l ↦ was.1.1 j from l ]), was.1.2))
  | inr none ↦
      (suc k, (omega arith, (λ j low high. (let at : suc k ≡ j = omega arith in subst (λ x. IsFree map x) at here)), λ j next f. (let at : j ≡ k = omega arith in none (subst (λ x. IsFree map x) at f))))
]

-- where a run of free frames ends
end_of : (map : List Bool) (first e fuel : ℕ) → length map ≤ e + fuel → first ≤ e → ((j : ℕ) → first ≤ j → j < e → IsFree map j) → (u : ℕ) × ((e ≤ u) × ((j : ℕ) → first ≤ j → j < u → IsFree map j) × (IsFree map u → ⊥))
end_of map first e zero past from free = (e, (omega arith, free, λ f. (let within = slice_get_within map e false f in absurd (omega arith))))
end_of map first e (suc fuel) past from free = elim (free_or_not map e) [
  | inl more ↦
      let further = end_of map first (e + 1) fuel (omega arith) (omega arith) (λ j low high. elim (cases_lt j e) [ inl l ↦ free j low l | inr last ↦ (let at : e ≡ j = omega arith in subst (λ x. IsFree map x) at more) ]) in
      let up = further.1.0 in
      (further.0, (omega arith, further.1.1, further.1.2))
  | inr none ↦ (e, (omega arith, free, none))
]

-- where no whole run is long enough, there are nowhere that many free frames in a row
pub none_free : (map : List Bool) (count : ℕ) → 0 < count → IsBestBelow map count (length map) None → (k : ℕ) → AreFree map count k → ⊥
none_free map count some none k free =
    let start : k + 0 ≡ k = omega arith in
    let b = begin_of map k (subst (λ x. IsFree map x) start (free 0 some)) in
    let low = b.1.0 in
    let run : (j : ℕ) → b.0 ≤ j → j < k + count → IsFree map j = λ j from below. elim (cases_lt k j) [
      | inl later ↦ (let at : k + (j - k) ≡ j = omega arith in subst (λ x. IsFree map x) at (free (j - k) (omega arith)))
      | inr early ↦ b.1.1 j from early
    ] in
    let e = end_of map b.0 (k + count) (length map) (omega arith) (omega arith) run in
    let up = e.1.0 in
    let block : IsBlock map b.0 (e.0 - b.0) = record {
      some = omega arith;
      free = λ i h. e.1.1 (b.0 + i) (omega arith) (omega arith);
      before = b.1.2;
      after = λ f. (let at : b.0 + (e.0 - b.0) ≡ e.0 = omega arith in e.1.2 (subst (λ x. IsFree map x) at f));
    } in
    let first : b.0 + 0 ≡ b.0 = omega arith in
    let within = slice_get_within map b.0 false (subst (λ x. IsFree map x) first (block.free 0 block.some)) in
    let few = none b.0 (e.0 - b.0) within block in
    omega arith

-- the best block of the whole map is the best fit
pub best_fits : (map : List Bool) (count : ℕ) (b : ℕ × ℕ) → 0 < count → IsBestBelow map count (length map) (Some b) → IsBestFit map count b.0
best_fits map count b some is =
    let block = is.1 in
    let enough = is.2 in
    let last = slice_get_within map (b.0 + (b.1 - 1)) false (block.free (b.1 - 1) (omega arith)) in
    record {
      inside = omega arith;
      free = λ i h. block.free i (omega arith);
      shortest = (
        b.1,
        (
          block,
          enough,
          λ k m other long.
              let first : k + 0 ≡ k = omega arith in
              is.3 k m (slice_get_within map k false (subst (λ x. IsFree map x) first (other.free 0 other.some))) other long,
        ),
      );
    }
