-- The definitions on small inputs.
use Rattle.std.specs.Prelude.{◌≡◌, ℕ, true, false, [], ◌∷◌, refl}
use Rattle.bit_portable.specs.Stored.{Piece, Numbers, Runs}
use Rattle.bit_portable.specs.Form.{form, flag_bytes, flag_at, heads_of, run_flags}

listed : Piece
listed = record { head = record { key = 0; count = 2; as_runs = false }; content = Numbers (3 ∷ 7 ∷ []) }

ranged : Piece
ranged = record { head = record { key = 1; count = 10; as_runs = true }; content = Runs (record { first = 0; last = 9 } ∷ []) }

last : ℕ → Piece
last key = record { head = record { key = key; count = 1; as_runs = false }; content = Numbers (5 ∷ []) }

nothing : form false [] [] ≡ 58 ∷ 48 ∷ 0 ∷ 0 ∷ 0 ∷ 0 ∷ 0 ∷ 0 ∷ []
nothing = refl

two_lists : form false [] (listed ∷ last 2 ∷ []) ≡ 58 ∷ 48 ∷ 0 ∷ 0 ∷ 2 ∷ 0 ∷ 0 ∷ 0 ∷ 0 ∷ 0 ∷ 1 ∷ 0 ∷ 2 ∷ 0 ∷ 0 ∷ 0 ∷ 24 ∷ 0 ∷ 0 ∷ 0 ∷ 28 ∷ 0 ∷ 0 ∷ 0 ∷ 3 ∷ 0 ∷ 7 ∷ 0 ∷ 5 ∷ 0 ∷ []
unfolding listed last
two_lists = refl

-- fewer than four blocks with flags have no offsets
with_runs : form true (2 ∷ []) (listed ∷ ranged ∷ last 2 ∷ []) ≡ 59 ∷ 48 ∷ 2 ∷ 0 ∷ 2 ∷ 0 ∷ 0 ∷ 1 ∷ 0 ∷ 1 ∷ 0 ∷ 9 ∷ 0 ∷ 2 ∷ 0 ∷ 0 ∷ 0 ∷ 3 ∷ 0 ∷ 7 ∷ 0 ∷ 1 ∷ 0 ∷ 0 ∷ 0 ∷ 9 ∷ 0 ∷ 5 ∷ 0 ∷ []
unfolding listed ranged last
with_runs = refl

with_offsets : form true (2 ∷ []) (listed ∷ ranged ∷ last 2 ∷ last 9 ∷ []) ≡ 59 ∷ 48 ∷ 3 ∷ 0 ∷ 2 ∷ 0 ∷ 0 ∷ 1 ∷ 0 ∷ 1 ∷ 0 ∷ 9 ∷ 0 ∷ 2 ∷ 0 ∷ 0 ∷ 0 ∷ 9 ∷ 0 ∷ 0 ∷ 0 ∷ 37 ∷ 0 ∷ 0 ∷ 0 ∷ 41 ∷ 0 ∷ 0 ∷ 0 ∷ 47 ∷ 0 ∷ 0 ∷ 0 ∷ 49 ∷ 0 ∷ 0 ∷ 0 ∷ 3 ∷ 0 ∷ 7 ∷ 0 ∷ 1 ∷ 0 ∷ 0 ∷ 0 ∷ 9 ∷ 0 ∷ 5 ∷ 0 ∷ 5 ∷ 0 ∷ []
unfolding listed ranged last
with_offsets = refl

one_flag : flag_bytes 1 (run_flags (heads_of (listed ∷ ranged ∷ last 2 ∷ []))) ≡ 2 ∷ []
unfolding listed ranged last
one_flag = refl

ninth_flag : flag_at (0 ∷ 1 ∷ []) 8 ≡ true
ninth_flag = refl

eighth_flag : flag_at (0 ∷ 1 ∷ []) 7 ≡ false
eighth_flag = refl
