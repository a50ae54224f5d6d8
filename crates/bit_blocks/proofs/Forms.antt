-- What follows for the numbers of a form, and which changes leave it a good one.
use Rattle.std.proofs.Common.{◌≡◌, ℕ, ◌+◌, ◌-◌, ◌<◌, ◌≤◌, Bool, true, false, not, ◌||◌, List, length, sym, ◌∙◌, ap, inl, inr, arith}
use Rattle.std.proofs.Math.Bool.{or-true}
use Rattle.std.proofs.lemmas.Bool.{cases_Bool}
use Rattle.bit_slice.specs.Places.{ones_of}
use Rattle.bit_blocks.specs.Bits.{AreBits}
use Rattle.bit_blocks.specs.Block.{IsBlock}
use Rattle.bit_blocks.specs.Form.{AreListed, AreMapped, IsForm, IsSmallest, is_ranged, numbers_of}
use Rattle.bit_blocks.specs.Numbers.{Ascends, Combines, Gains, GainsBetween, Loses, LosesBetween, count_where, has}
use Rattle.bit_blocks.specs.Operation.{made_by}
use Rattle.bit_blocks.specs.Runs.{numbers_of_run, runs_of, runs_pay}
use Rattle.bit_blocks.specs.declared.form.Form.{Form}
use Rattle.bit_blocks.specs.declared.form.Form.TheVariants.{Listed, Mapped, Ranged}
use Rattle.bit_blocks.specs.declared.operation.Operation.{Operation}
use Rattle.bit_blocks.specs.declared.ranged.Run.{Run}
use Rattle.bit_blocks.proofs.Ascending.{few_numbers, same_numbers}
use Rattle.bit_blocks.proofs.Bits.{ascends_ones}
use Rattle.bit_blocks.proofs.Edits.{gains_present, length_gained, length_lost, loses_absent}
use Rattle.bit_blocks.proofs.Runs.{ascends_runs}
use Rattle.bit_blocks.proofs.Sizes.{count_cleared, count_filled, few_combined, few_in_either, few_in_run, few_of_left, no_fewer_filled, no_fewer_gained, no_more_cleared, no_more_lost, one_less_lost, one_more_gained}

-- the numbers of a form ascend
pub ascends_form : (form : Form) → IsForm form → Ascends (numbers_of form)
ascends_form (Listed numbers) h = h.ascends
ascends_form (Mapped bits) h = ascends_ones bits.value.list h.size
ascends_form (Ranged runs) h = ascends_runs 0 runs.items h

-- and are at most 65536
pub few_of_form : (form : Form) → IsForm form → length (numbers_of form) ≤ 65536
few_of_form form h = let few = few_numbers 0 65536 (numbers_of form) (omega arith) (ascends_form form h) in omega arith

-- forms of the same numbers have the same count
pub same_count : (old new : Form) (count : ℕ) → IsBlock old count → IsForm new → numbers_of new ≡ numbers_of old → IsBlock new count
same_count old new count was good same = record { good = good; size = was.size ∙ ap length (sym same) }

-- a block has at most 65536 numbers
pub few_of_block : (form : Form) (count : ℕ) → IsBlock form count → count ≤ 65536
few_of_block form count was = let size = was.size in let few = few_of_form form was.good in omega arith

-- the count after a number was put in that was not there
pub gained_count : (old new : Form) (count n : ℕ) → IsBlock old count → IsForm new → n < 65536 → not (has (numbers_of old) n) ≡ true → Gains (numbers_of old) (numbers_of new) n → IsBlock new (count + 1)
gained_count old new count n was good low is gains = elim (cases_Bool (has (numbers_of old) n)) [
  | inl there ↦ absurd (let e : false ≡ true = sym (ap not there) ∙ is in cc)
  | inr out ↦ (
      let size = was.size in
      let more = length_gained (numbers_of old) (numbers_of new) n (ascends_form old was.good) (ascends_form new good) low out gains in
      record { good = good; size = omega arith })
]

-- and after one that was there
pub same_gained : (old new : Form) (count n : ℕ) → IsBlock old count → IsForm new → not (has (numbers_of old) n) ≡ false → Gains (numbers_of old) (numbers_of new) n → IsBlock new count
same_gained old new count n was good is gains = elim (cases_Bool (has (numbers_of old) n)) [
  | inl there ↦ same_count old new count was good (same_numbers 0 65536 (numbers_of new) (numbers_of old) (ascends_form new good) (ascends_form old was.good) (λ k. gains k ∙ sym (gains_present (numbers_of old) n there k)))
  | inr out ↦ absurd (let e : true ≡ false = sym (ap not out) ∙ is in cc)
]

-- the count after a number was taken out that was there
pub lost_count : (old new : Form) (count n : ℕ) → IsBlock old count → IsForm new → has (numbers_of old) n ≡ true → Loses (numbers_of old) (numbers_of new) n → IsBlock new (count - 1)
lost_count old new count n was good there loses =
    let size = was.size in
    let less = length_lost (numbers_of old) (numbers_of new) n (ascends_form old was.good) (ascends_form new good) there loses in
    record { good = good; size = omega arith }

-- and after one that was not
pub same_lost : (old new : Form) (count n : ℕ) → IsBlock old count → IsForm new → has (numbers_of old) n ≡ false → Loses (numbers_of old) (numbers_of new) n → IsBlock new count
same_lost old new count n was good out loses =
    same_count old new count was good (same_numbers 0 65536 (numbers_of new) (numbers_of old) (ascends_form new good) (ascends_form old was.good) (λ k. loses k ∙ sym (loses_absent (numbers_of old) n out k)))

-- the count after a range was put in, by how many of its numbers were there
pub filled_count : (old new : Form) (count there next : ℕ) (r : Run) → IsBlock old count → IsForm new → r.first ≤ r.last → r.last < 65536 → there ≡ count_where (has (numbers_of old)) (numbers_of_run r)
    → GainsBetween (numbers_of old) (numbers_of new) r.first r.last → next + there ≡ count + (r.last + 1 - r.first) → IsBlock new next
filled_count old new count there next r was good ordered most is gains sum =
    let size = was.size in
    let all = count_filled (numbers_of old) (numbers_of new) r (ascends_form old was.good) (ascends_form new good) ordered most gains in
    record { good = good; size = omega arith }

-- no more numbers of a range are there than a block has
pub few_cleared : (form : Form) (count gone : ℕ) (r : Run) → IsBlock form count → r.first ≤ r.last → r.last < 65536 → gone ≡ count_where (has (numbers_of form)) (numbers_of_run r) → gone ≤ count
few_cleared form count gone r was ordered most is =
    let size = was.size in
    let few = few_in_run (numbers_of form) r (ascends_form form was.good) ordered most in
    omega arith

-- the numbers that are left and those of a range that was taken out are all
cleared_all : (old new : Form) (count gone : ℕ) (r : Run) → IsBlock old count → IsForm new → r.first ≤ r.last → r.last < 65536 → gone ≡ count_where (has (numbers_of old)) (numbers_of_run r)
    → LosesBetween (numbers_of old) (numbers_of new) r.first r.last → length (numbers_of new) + gone ≡ count
cleared_all old new count gone r was good ordered most is loses =
    let size = was.size in
    let all = count_cleared (numbers_of old) (numbers_of new) r (ascends_form old was.good) (ascends_form new good) ordered most loses in
    omega arith

-- so this is the count after it was taken out
pub cleared_count : (old new : Form) (count gone next : ℕ) (r : Run) → IsBlock old count → IsForm new → r.first ≤ r.last → r.last < 65536 → gone ≡ count_where (has (numbers_of old)) (numbers_of_run r)
    → LosesBetween (numbers_of old) (numbers_of new) r.first r.last → next + gone ≡ count → IsBlock new next
cleared_count old new count gone next r was good ordered most is loses sum =
    let all = cleared_all old new count gone r was good ordered most is loses in
    record { good = good; size = omega arith }

-- ---- lists that stay lists, and bits that stay bits

pub listed_gained : (xs ys : List ℕ) (n : ℕ) → Ascends xs → length xs < 4096 → n < 65536 → Ascends ys → Gains xs ys n → AreListed ys
listed_gained xs ys n h room low g gains = let more = one_more_gained xs ys n h g low gains in record { ascends = g; few = omega arith }

pub listed_filled : (xs ys : List ℕ) (n : ℕ) → length xs + n ≤ 4096 → Ascends ys → length ys ≤ length xs + n → AreListed ys
listed_filled xs ys n room g few = record { ascends = g; few = omega arith }

pub listed_lost : (xs ys : List ℕ) (n : ℕ) → AreListed xs → Ascends ys → Loses xs ys n → AreListed ys
listed_lost xs ys n h g loses = let few = h.few in let less = no_more_lost xs ys n h.ascends g loses in record { ascends = g; few = omega arith }

pub listed_cleared : (xs ys : List ℕ) (first last : ℕ) → AreListed xs → Ascends ys → LosesBetween xs ys first last → AreListed ys
listed_cleared xs ys first last h g loses = let few = h.few in let less = no_more_cleared xs ys first last h.ascends g loses in record { ascends = g; few = omega arith }

-- numbers of a list that are kept are a list
pub listed_kept : (op : Operation) (xs ys zs : List ℕ) → AreListed xs → Ascends zs → made_by op false true ≡ false → Combines (made_by op) xs ys zs → AreListed zs
listed_kept op xs ys zs h f drops made = let most = h.few in let few = few_of_left op xs ys zs h.ascends f drops made in record { ascends = f; few = omega arith }

-- and so are those of two lists, where these are few or none of the right one alone is kept
pub listed_merged : (op : Operation) (xs ys zs : List ℕ) → AreListed xs → AreListed ys → Ascends zs → (made_by op false true ≡ true → length xs + length ys ≤ 4096) → Combines (made_by op) xs ys zs → AreListed zs
listed_merged op xs ys zs h g f few made = elim (cases_Bool (made_by op false true)) [
  | inl keeps ↦ (let room = few keeps in let most = few_combined op xs ys zs h.ascends g.ascends f made in record { ascends = f; few = omega arith })
  | inr drops ↦ listed_kept op xs ys zs h f drops made
]

pub mapped_gained : (xs ys : List Bool) (n : ℕ) → AreMapped xs → AreBits ys → Gains (ones_of xs) (ones_of ys) n → AreMapped ys
mapped_gained xs ys n h size gains =
    let many = h.many in
    let more = no_fewer_gained (ones_of xs) (ones_of ys) n (ascends_ones xs h.size) (ascends_ones ys size) gains in
    record { size = size; many = omega arith }

pub mapped_lost : (xs ys : List Bool) (n : ℕ) → AreMapped xs → 4097 < length (ones_of xs) → n < 65536 → AreBits ys → Loses (ones_of xs) (ones_of ys) n → AreMapped ys
mapped_lost xs ys n h many low size loses =
    let less = one_less_lost (ones_of xs) (ones_of ys) n (ascends_ones xs h.size) (ascends_ones ys size) low loses in
    record { size = size; many = omega arith }

pub mapped_filled : (xs ys : List Bool) (first last : ℕ) → AreMapped xs → AreBits ys → GainsBetween (ones_of xs) (ones_of ys) first last → AreMapped ys
mapped_filled xs ys first last h size gains =
    let many = h.many in
    let more = no_fewer_filled (ones_of xs) (ones_of ys) first last (ascends_ones xs h.size) (ascends_ones ys size) gains in
    record { size = size; many = omega arith }

pub mapped_cleared : (xs ys : List Bool) (r : Run) → AreMapped xs → 4096 + count_where (has (ones_of xs)) (numbers_of_run r) < length (ones_of xs) → r.first ≤ r.last → r.last < 65536
    → AreBits ys → LosesBetween (ones_of xs) (ones_of ys) r.first r.last → AreMapped ys
mapped_cleared xs ys r h many ordered most size loses =
    let less = count_cleared (ones_of xs) (ones_of ys) r (ascends_ones xs h.size) (ascends_ones ys size) ordered most loses in
    record { size = size; many = omega arith }

-- bits stay bits where more numbers are left than a list may have, even if all of another list are taken out
pub mapped_changed : (op : Operation) (xs ys : List Bool) (numbers : List ℕ) → AreMapped xs → AreBits ys → Ascends numbers → made_by op true false ≡ true → 4096 + length numbers < length (ones_of xs)
    → Combines (made_by op) (ones_of xs) numbers (ones_of ys) → AreMapped ys
mapped_changed op xs ys numbers h size up keeps many made =
    let least = few_in_either (ones_of ys) numbers (ones_of xs) (ascends_ones ys size) up (ascends_ones xs h.size) (λ k there. elim (cases_Bool (has numbers k)) [
      | inl in_list ↦ ap (λ b. has (ones_of ys) k || b) in_list ∙ or-true (has (ones_of ys) k)
      | inr out ↦ ap (λ b. b || has numbers k) (made k ∙ ap (λ b. made_by op b (has numbers k)) there ∙ ap (made_by op true) out ∙ keeps)
    ]) in
    record { size = size; many = omega arith }

-- ---- the form that takes the fewest bytes

-- a form that is runs where these take fewer bytes
pub smallest_same : (old new : Form) (pays : Bool) → pays ≡ runs_pay (length (numbers_of old)) (length (runs_of (numbers_of old))) → numbers_of new ≡ numbers_of old → is_ranged new ≡ pays → IsSmallest new
smallest_same old new pays is same ranged = ranged ∙ is ∙ ap (λ xs. runs_pay (length xs) (length (runs_of xs))) (sym same)
