use Rattle.std.proofs.Common.{◌≡◌, ◌+◌, ◌-◌, [], ◌∷◌, ◌++◌, length, set, slice_range, sym, ◌∙◌, ap, arith}
use Rattle.bit_addressing.specs.Row.{moved}
use Rattle.bit_addressing.specs.Typed.{row}
use Rattle.bit_addressing.proofs.Rows.{width_positive}
use Rattle.std.proofs.lemmas.List.{length_push}
use Rattle.bit_addressing.proofs.lists.Moved.{inserted_shows}
use Rattle.bit_containers.proofs.Vectors.{few_words, shown}
use Rattle.bit_containers.proofs.Clean.{clean_inserted}
use Rattle.bit_containers.proofs.vec.BitVec.insert.Goals as goal

pub insert_bit_in_vec-requires-clause-room : goal.insert_bit_in_vec-requires-clause-room
insert_bit_in_vec-requires-clause-room g c = few_words g.T.BitStore.BITS (length c.self.inside.words.items) c.self.inside.head c.self.inside.len (width_positive _ g.met.T.BitStore.width) c.self.invariant

pub returns-clause-list : goal.returns-clause-list
returns-clause-list g c =
    let i = c.self.inside in
    let bits = row g.T.BitStore g.O.BitOrder i.words.items in
    let fits = shown g.T.BitStore g.O.BitOrder i.words.items i.head i.len g.met.T.BitStore.width c.self.invariant in
    let pushed : slice_range bits i.head (i.head + i.len) ≡ c.args.self.now.list ++ c.args.bit ∷ [] = ap (λ v. v.list) c.self.view_is ∙ c.in_ok-push.ensures.list in
    let size : i.len ≡ length c.args.self.now.list + 1 = sym c.self.invariant.shows ∙ ap length pushed ∙ length_push c.args.self.now.list c.args.bit in
    ap (λ r. slice_range r i.head (i.head + i.len)) c.insert_bit_in_vec.ensures.bits
    ∙ inserted_shows bits c.args.self.now.list i.head i.len c.args.i c.args.bit pushed size c.requires fits

pub returns-clause-clean : goal.returns-clause-clean
returns-clause-clean g c clean =
    let i = c.self.inside in
    let now = c.args.self.now in
    let w = g.T.BitStore.BITS in
    let at = c.args.i in
    let pushed : slice_range (row g.T.BitStore g.O.BitOrder i.words.items) i.head (i.head + i.len) ≡ now.list ++ c.args.bit ∷ [] = ap (λ v. v.list) c.self.view_is ∙ c.in_ok-push.ensures.list in
    let beyond : i.len - 1 - at ≡ length now.list - at = omega (arith, c.self.invariant.shows, ap length pushed, length_push now.list c.args.bit) in
    clean_inserted w now c.push.new.self _ at c.args.bit (width_positive w g.met.T.BitStore.width) c.requires c.in_ok-push.ensures.list (ap (λ v. v.head) c.self.view_is) (returns-clause-list g c)
    (c.insert_bit_in_vec.ensures.bits
    ∙ ap (λ v. set (moved v.row (v.head + at) (v.head + at + 1) (i.len - 1 - at)) (v.head + at) c.args.bit) c.self.view_is
    ∙ ap (λ n. set (moved c.push.new.self.row (c.push.new.self.head + at) (c.push.new.self.head + at + 1) n) (c.push.new.self.head + at) c.args.bit) beyond)
    (c.in_ok-push.ensures.clean clean)
