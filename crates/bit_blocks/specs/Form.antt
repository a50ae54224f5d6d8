-- The numbers of a form, what always holds of it, and which form takes the fewest bytes.
use Rattle.std.specs.Prelude.{◌≡◌, ℕ, ◌<◌, ◌≤◌, Bool, true, false, List, length}
use Rattle.bit_slice.specs.Places.{ones_of}
use Rattle.bit_blocks.specs.Bits.{AreBits}
use Rattle.bit_blocks.specs.Numbers.{Ascends}
use Rattle.bit_blocks.specs.Runs.{AreRuns, run_numbers, runs_of, runs_pay}
use Rattle.bit_blocks.specs.declared.form.Form.{Form}
use Rattle.bit_blocks.specs.declared.form.Form.TheVariants.{Listed, Mapped, Ranged}

-- the numbers of a form
abbrev pub numbers_of : Form → List ℕ
numbers_of (Listed numbers) = numbers.items
numbers_of (Mapped bits) = ones_of bits.value.list
numbers_of (Ranged runs) = run_numbers runs.items

-- ascending numbers that take no more bytes as a list than as bits
pub record AreListed (numbers : List ℕ) : Type 0 where
  pub ascends : Ascends numbers
  pub few : length numbers ≤ 4096

-- a bit for each number below 65536, of more numbers than a list may have
pub record AreMapped (bits : List Bool) : Type 0 where
  pub size : AreBits bits
  pub many : 4096 < length (ones_of bits)

-- what always holds of each form
abbrev pub IsForm : Form → Type 0
IsForm (Listed numbers) = AreListed numbers.items
IsForm (Mapped bits) = AreMapped bits.value.list
IsForm (Ranged runs) = AreRuns runs.items

-- whether a form is runs
abbrev pub is_ranged : Form → Bool
is_ranged (Listed numbers) = false
is_ranged (Mapped bits) = false
is_ranged (Ranged runs) = true

-- a form is runs exactly where they take fewer bytes than its numbers take as a list or as bits
abbrev pub IsSmallest : Form → Type 0
IsSmallest form = is_ranged form ≡ runs_pay (length (numbers_of form)) (length (runs_of (numbers_of form)))
