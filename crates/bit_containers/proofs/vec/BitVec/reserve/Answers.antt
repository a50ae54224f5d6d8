use Rattle.std.proofs.lemmas.Grind.{common_steps}
use Rattle.std.proofs.Common.{◌≡◌, ◌+◌, ◌-◌, ◌<◌, ◌≤◌, length, refl, subst, sym, ◌∙◌, arith, rules}
use Rattle.std.proofs.Common.{vec_capacity}
use Rattle.std.proofs.lemmas.Result.{err_from_is_err_and}
use Rattle.bit_addressing.specs.Row.{words_for}
use Rattle.bit_addressing.proofs.Rows.{width_positive, width_small}
use Rattle.bit_containers.proofs.Vectors.{kept, has_room, no_room_for, room_for}
use Rattle.bit_containers.proofs.vec.BitVec.reserve.Goals as goal

pub returns-in_err-reserve-clause-refusal : goal.returns-in_err-reserve-clause-refusal
returns-in_err-reserve-clause-refusal g c =
    let i = c.self.inside in
    let w = g.T.BitStore.BITS in
    let more = c.args.more in
    let least : length i.words.items ≤ vec_capacity i.words = search rules in
    let words : c.in_ok-words.words ≡ words_for w (i.head + (i.len + more)) - length i.words.items = c.in_ok-words.ensures.words ∙ rw (← c.self.view_is, c.self.invariant.shows) refl in
    let size : length c.args.self.now.list ≡ i.len = rw (← c.self.view_is) c.self.invariant.shows in
    let fits = c.in_ok-words.ensures.fits.0 refl in
    let short : vec_capacity i.words < words_for w (i.head + (i.len + more)) = omega (arith, words, least, i.words.ok.0, c.in_err-reserve.ensures.full) in
    let p = err_from_is_err_and c.from_residual-in_err-reserve.result c.from_residual-in_err-reserve.ensures.1 in
    rw (p.1, p.2, ← c.self.view_is, c.self.invariant.shows) (record {
      too_long = ((λ e. cc), (λ h. absurd (omega (arith, size, fits))));
      memory = λ _. no_room_for w (length i.words.items) (vec_capacity i.words) i.head i.len (i.len + more) (width_positive w g.met.T.BitStore.width) c.self.invariant least (omega arith) short;
      unchanged = kept g.T.BitStore g.O.BitOrder i.words.items c.reserve.new.self.items i.head i.len _ _ c.in_err-reserve.ensures.items;
    })

pub returns-in_ok-reserve-clause-room : goal.returns-in_ok-reserve-clause-room
returns-in_ok-reserve-clause-room g c =
    let i = c.self.inside in
    let w = g.T.BitStore.BITS in
    let more = c.args.more in
    let low = width_small w g.met.T.BitStore.width in
    let below = c.self.invariant.head_below in
    let words : c.in_ok-words.words ≡ words_for w (i.head + (i.len + more)) - length i.words.items = c.in_ok-words.ensures.words ∙ rw (← c.self.view_is, c.self.invariant.shows) refl in
    let size : length c.args.self.now.list ≡ i.len = rw (← c.self.view_is) c.self.invariant.shows in
    let fits = c.in_ok-words.ensures.fits.0 refl in
    let enough : words_for w (i.head + (i.len + more)) ≤ vec_capacity c.reserve.new.self = omega (arith, words, c.in_ok-reserve.ensures.len, c.in_ok-reserve.ensures.ok) in
    rw (← c.self.view_is, c.self.invariant.shows) (has_room w (vec_capacity c.reserve.new.self) i.head (i.len + more) (width_positive w g.met.T.BitStore.width) (omega (arith, size, fits, low, below)) enough)

pub returns-else-words-capacity-clause-room : goal.returns-else-words-capacity-clause-room
returns-else-words-capacity-clause-room g c =
    let i = c.self.inside in
    let w = g.T.BitStore.BITS in
    let more = c.args.more in
    let low = width_small w g.met.T.BitStore.width in
    let below = c.self.invariant.head_below in
    let least : length i.words.items ≤ vec_capacity i.words = search rules in
    let words : c.in_ok-words.words ≡ words_for w (i.head + (i.len + more)) - length i.words.items = c.in_ok-words.ensures.words ∙ rw (← c.self.view_is, c.self.invariant.shows) refl in
    let size : length c.args.self.now.list ≡ i.len = rw (← c.self.view_is) c.self.invariant.shows in
    let fits = c.in_ok-words.ensures.fits.0 refl in
    let enough : words_for w (i.head + (i.len + more)) ≤ vec_capacity i.words = omega (arith, words, least, i.words.ok.0, c.capacity.ensures, c.len.ensures, c.if-words-capacity.false) in
    rw (← c.self.view_is, c.self.invariant.shows) (has_room w (vec_capacity i.words) i.head (i.len + more) (width_positive w g.met.T.BitStore.width) (omega (arith, size, fits, low, below)) enough)

pub returns-in_ok-reserve-clause-no_memory : goal.returns-in_ok-reserve-clause-no_memory
returns-in_ok-reserve-clause-no_memory g c h =
    let i = c.self.inside in
    let w = g.T.BitStore.BITS in
    let more = c.args.more in
    let least : length i.words.items ≤ vec_capacity i.words = search rules in
    let words : c.in_ok-words.words ≡ words_for w (i.head + (i.len + more)) - length i.words.items = c.in_ok-words.ensures.words ∙ rw (← c.self.view_is, c.self.invariant.shows) refl in
    let few = subst (λ v. length v.list + more ≤ v.capacity) (sym c.self.view_is) h in
    let enough : words_for w (i.head + (i.len + more)) ≤ vec_capacity i.words = room_for w (length i.words.items) (vec_capacity i.words) i.head i.len (i.len + more) (width_positive w g.met.T.BitStore.width) c.self.invariant least (omega arith) (omega (arith, few, c.self.invariant.shows)) in
    absurd (omega (arith, words, enough, least, i.words.ok.0, c.capacity.ensures, c.len.ensures, c.if-words-capacity.true))

pub returns-in_ok-reserve-clause-capacity : goal.returns-in_ok-reserve-clause-capacity
returns-in_ok-reserve-clause-capacity g c = grind (arith, common_steps)
