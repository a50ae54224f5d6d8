use Rattle.std.proofs.Common.{◌≡◌, ◌-◌, ◌*◌, ◌≤◌, get_or, length, sym, ◌∙◌, ap, arith}
use Rattle.bit_addressing.specs.Typed.{row}
use Rattle.bit_addressing.proofs.Typed.{length_row}
use Rattle.bit_slice.proofs.Owned.{shorter_last}
use Rattle.bit_slice.proofs.Shown.{run_last}
use Rattle.bit_array.proofs.array.iter.IntoIterDoubleEndedIterator.next_back.Goals as goal

pub returns-clause-steps : goal.returns-clause-steps
returns-clause-steps g c =
    let s = c.self.inside in
    let ws = g.A.BitWords.words s.array in
    let bits = row g.A.Store.BitStore g.O.BitOrder in
    let size : length (bits ws) ≡ g.A.Store.BitStore.BITS * g.A.BitWords.count = length_row g.A.Store.BitStore.value g.O.BitOrder.place g.A.Store.BitStore.BITS ws ∙ ap (λ n. g.A.Store.BitStore.BITS * n) (sym (ap length c.as_raw_slice.ensures.words) ∙ c.as_raw_slice.ensures.len) in
    let inside : s.upto ≤ length (bits ws) = omega (arith, c.self.invariant.1, size) in
    sym c.self.view_is ∙ run_last (bits ws) s.from s.upto c.read_bit.result (omega (arith, c.self.invariant.0)) inside (c.read_bit.ensures ∙ ap (λ l. get_or (bits l) (s.upto - 1) _) c.as_raw_slice.ensures.words)

pub returns-clause-goes : goal.returns-clause-goes
returns-clause-goes g c = record { on = λ _. (tt, tt, shorter_last _ _ _ (returns-clause-steps g c)); keeps = tt; rests = λ _. tt }
