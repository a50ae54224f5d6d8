-- Where writes through a container's words land.
use Rattle.std.specs.Prelude.{◌≡◌, ℕ, ◌*◌, Bool, List}
use Rattle.std.specs.Borrow.{Lends, MutBor, Fml, RattleType, Array}

-- the lender ends as F of the words that the slice has last
abbrev pub lends_to : (R T : RattleType) → MutBor R.Denot → (List T.Denot → R.Denot) → MutBor (List T.Denot) → Fml
lends_to R T s F r = Lends R (Array T 0) s r F

-- what each write keeps: where the list begins and how long it is, how many words there are and how many bits they have room for, and the loan that the words are under
pub record Stays {S : Type 0} (head_in len_in count_in capacity_in loan_in : S → ℕ) (old new : S) : Type 0 where
  pub head : head_in new ≡ head_in old
  pub len : len_in new ≡ len_in old
  pub size : count_in new ≡ count_in old
  pub capacity : capacity_in new ≡ capacity_in old
  pub same_words : loan_in new ≡ loan_in old

-- where the list is the whole row, with no dead bit, a write over all of it leaves the row of these bits
abbrev pub BecomesWhole : {S : Type 0} → ℕ → (S → ℕ) → (S → ℕ) → (S → ℕ) → (S → List Bool) → S → S → List Bool → Type 0
BecomesWhole w head len count row old new bits = head old ≡ 0 → len old ≡ w * count old → row new ≡ bits
