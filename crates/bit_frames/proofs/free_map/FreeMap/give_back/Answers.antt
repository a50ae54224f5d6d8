use Rattle.std.proofs.Common.{◌≡◌, ◌+◌, ◌-◌, ◌≤◌, Bool, List, count_by, length, not, false, true, replicate, refl, sym, subst, ◌∙◌, ap, arith}
use Rattle.bit_frames.specs.FreeMap.{AreTaken}
use Rattle.bit_addressing.specs.Row.{put}
use Rattle.bit_frames.proofs.Counted.{freed_count}
use Rattle.bit_frames.proofs.Frames.{marked_length, marked_taken, put_back}
use Rattle.bit_frames.proofs.free_map.FreeMap.give_back.Goals as goal

pub returns-clause-restores : goal.returns-clause-restores
returns-clause-restores c before free taken =
    let first = c.args.first in
    let count = c.args.count in
    let less : first + count - first ≡ count = omega arith in (
      refl,
      put_back before c.args.self.now c.fill_range.new.self.list first count c.requires free taken
          (c.fill_range.ensures.list ∙ rw (less) (ap (λ l. put l first (replicate count false)) c.self.view_is)),
    )

pub returns-then-not-are_taken-clause-restores : goal.returns-then-not-are_taken-clause-restores
returns-then-not-are_taken-clause-restores c before free marked =
    let all : c.are_taken.result ≡ true = c.are_taken.ensures.1 (marked_taken before c.args.self.now c.args.first c.args.count free marked) in
    absurd (false_true (sym c.if-not-are_taken.true ∙ all))
  where
    false_true : false ≡ true → ⊥
    false_true e = cc

pub invariant_of-self : goal.invariant_of-self
invariant_of-self c =
    let map : List Bool = c.self.inside.taken.list in
    let first = c.args.first in
    let count = c.args.count in
    let less : first + count - first ≡ count = omega arith in
    let given : c.fill_range.new.self.list ≡ put map first (replicate count false) = c.fill_range.ensures.list ∙ ap (λ n. put map first (replicate n false)) less in
    let inside : first + count ≤ length map = subst (λ (l : List Bool). first + count ≤ length l) (sym c.self.view_is) c.requires in
    let taken : AreTaken map count first = subst (λ (l : List Bool). AreTaken l count first) (sym c.self.view_is) (c.are_taken.ensures.0 c.if-not-are_taken.false) in
    let size = ap length given ∙ marked_length map first count false inside in
    let all = freed_count map first count inside taken in
    let free = c.self.invariant.count in
    let few = c.self.invariant.few in
    let more : c.self.inside.free + count ≡ count_by not (put map first (replicate count false)) = omega arith in
    record { few = omega arith; count = more ∙ ap (count_by not) (sym given) }
