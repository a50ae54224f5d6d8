use Rattle.std.proofs.lemmas.Grind.{common_steps}
use Rattle.std.proofs.Common.{◌≡◌, ◌+◌, ◌-◌, ◌<◌, ◌≤◌, length, refl, ◌∙◌, arith, rules}
use Rattle.std.proofs.Common.{vec_capacity}
use Rattle.std.proofs.lemmas.Result.{err_from_is_err_and}
use Rattle.bit_addressing.specs.Row.{words_for}
use Rattle.bit_addressing.proofs.Rows.{width_positive, width_small}
use Rattle.bit_containers.proofs.Vectors.{kept, has_room, no_room_for}
use Rattle.bit_containers.proofs.vec.BitVec.reserve_exact.Goals as goal

pub returns-in_err-reserve_exact-clause-refusal : goal.returns-in_err-reserve_exact-clause-refusal
returns-in_err-reserve_exact-clause-refusal g c =
    let i = c.self.inside in
    let w = g.T.BitStore.BITS in
    let more = c.args.more in
    let least : length i.words.items ≤ vec_capacity i.words = search rules in
    let words : c.in_ok-words.words ≡ words_for w (i.head + (i.len + more)) - length i.words.items = c.in_ok-words.ensures.words ∙ rw (← c.self.view_is, c.self.invariant.shows) refl in
    let size : length c.args.self.now.list ≡ i.len = rw (← c.self.view_is) c.self.invariant.shows in
    let fits = c.in_ok-words.ensures.fits.0 refl in
    let short : vec_capacity i.words < words_for w (i.head + (i.len + more)) = omega (arith, words, least, i.words.ok.0, c.in_err-reserve_exact.ensures.full) in
    let p = err_from_is_err_and c.from_residual-in_err-reserve_exact.result c.from_residual-in_err-reserve_exact.ensures.1 in
    rw (p.1, p.2, ← c.self.view_is, c.self.invariant.shows) (record {
      too_long = ((λ e. cc), (λ h. absurd (omega (arith, size, fits))));
      memory = λ _. no_room_for w (length i.words.items) (vec_capacity i.words) i.head i.len (i.len + more) (width_positive w g.met.T.BitStore.width) c.self.invariant least (omega arith) short;
      unchanged = kept g.T.BitStore g.O.BitOrder i.words.items c.reserve_exact.new.self.items i.head i.len _ _ c.in_err-reserve_exact.ensures.items;
    })

pub returns-clause-room : goal.returns-clause-room
returns-clause-room g c =
    let i = c.self.inside in
    let w = g.T.BitStore.BITS in
    let more = c.args.more in
    let low = width_small w g.met.T.BitStore.width in
    let below = c.self.invariant.head_below in
    let words : c.in_ok-words.words ≡ words_for w (i.head + (i.len + more)) - length i.words.items = c.in_ok-words.ensures.words ∙ rw (← c.self.view_is, c.self.invariant.shows) refl in
    let size : length c.args.self.now.list ≡ i.len = rw (← c.self.view_is) c.self.invariant.shows in
    let fits = c.in_ok-words.ensures.fits.0 refl in
    let enough : words_for w (i.head + (i.len + more)) ≤ vec_capacity c.reserve_exact.new.self = omega (arith, words, c.in_ok-reserve_exact.ensures.len, c.in_ok-reserve_exact.ensures.ok) in
    rw (← c.self.view_is, c.self.invariant.shows) (has_room w (vec_capacity c.reserve_exact.new.self) i.head (i.len + more) (width_positive w g.met.T.BitStore.width) (omega (arith, size, fits, low, below)) enough)

pub returns-clause-capacity : goal.returns-clause-capacity
returns-clause-capacity g c = grind (arith, common_steps)

pub returns-clause-exact : goal.returns-clause-exact
returns-clause-exact g c = grind (arith, common_steps)
