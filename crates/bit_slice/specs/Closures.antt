-- What the calls of a function that keeps a state returned, one after another.
use Rattle.std.specs.Prelude.{◌≡◌, ℕ, ◌+◌, ◌<◌, Bool, cond, List, [], ◌∷◌, ◌++◌, length}
use Rattle.std.specs.Borrow.{Bor}
use Rattle.std.specs.List.{items_where_true}

module _ {F B : Type 0} (step : F → ℕ → B → F → Type 0) where
  -- called at `index` and at the indices after it, one after another, the function gave these results, and each call began in the state that the one before left; `last` is the state after all of them
  abbrev pub ResultsFrom : F → ℕ → List B → F → Type 0
  ResultsFrom f index [] last = f ≡ last
  ResultsFrom f index (given ∷ results) last = (next : F) × step f index given next × ResultsFrom next (index + 1) results last

module _ {F B : Type 0} (pre : F → ℕ → Type 0) (step : F → ℕ → B → F → Type 0) where
  -- the function may be called at `index` and at the indices after it that are below `upto`, one after another, and no call beyond those is asked for
  pub record CallableFrom (f : F) (index upto : ℕ) : Type 0 where
    pub at : (results : List B) (state : F) (i : ℕ) → i ≡ index + length results → i < upto → ResultsFrom step f index results state → pre state i

module _ {F : Type 0} (step : F → ℕ → Bor Bool → Bool → F → Type 0) where
  -- called at each of these bits and its index, the first of which is `index`, the function gave these results, and each call began in the state that the one before left
  abbrev pub ResultsAtEach : F → ℕ → List Bool → List Bool → F → Type 0
  ResultsAtEach f index [] results last = (results ≡ []) × (f ≡ last)
  ResultsAtEach f index (bit ∷ bits) results last = (given : Bool) × (later : List Bool) × (next : F) × (shown : Bor Bool)
      × (results ≡ given ∷ later) × (shown.now ≡ bit) × step f index shown given next × ResultsAtEach next (index + 1) bits later last

module _ {F : Type 0} (pre : F → ℕ → Bor Bool → Type 0) (step : F → ℕ → Bor Bool → Bool → F → Type 0) where
  -- the function may be called at each of these bits and its index, one after another, and no call beyond those is asked for
  pub record CallableAtEach (f : F) (bits : List Bool) : Type 0 where
    pub at : (before after results : List Bool) (bit : Bool) (shown : Bor Bool) (state : F) (i : ℕ) → bits ≡ before ++ bit ∷ after → shown.now ≡ bit → i ≡ length before → ResultsAtEach step f 0 before results state → pre state i shown

-- the bits whose result was true, in order
abbrev pub kept : List Bool → List Bool → List Bool
kept bits results = items_where_true results bits

-- the bits that pass a test of their index and themselves, where the first index is `index`
abbrev pub keep_where : (ℕ → Bool → Bool) → ℕ → List Bool → List Bool
keep_where test index [] = []
keep_where test index (bit ∷ bits) = cond (test index bit) (bit ∷ keep_where test (index + 1) bits) (keep_where test (index + 1) bits)
