use Rattle.std.proofs.Common.{◌≡◌, ◌+◌, ◌<◌, [], ◌∷◌, ◌++◌, length, slice_range, refl, sym, ◌∙◌, ap, subst, arith}
use Rattle.std.proofs.lemmas.Result.{err_from_is_err_and}
use Rattle.bit_addressing.specs.Row.{words_for, put, sized}
use Rattle.bit_addressing.specs.Typed.{row}
use Rattle.bit_addressing.proofs.lists.Shown.{grown_shows}
use Rattle.std.proofs.Common.{vec_capacity}
use Rattle.bit_addressing.proofs.Rows.{width_positive}
use Rattle.bit_containers.proofs.Vectors.{kept, shown, no_room, room_in, refilled}
use Rattle.bit_containers.specs.BitVec.{bits_in}
use Rattle.bit_containers.proofs.Clean.{clean_joined}
use Rattle.bit_containers.proofs.Elements.{exactly, more_room}
use Rattle.bit_containers.proofs.Growing.{grew_by}
use Rattle.bit_containers.proofs.vec.BitVec.push.Goals as goal

pub returns-in_err-push_bit_in_vec-clause-refusal : goal.returns-in_err-push_bit_in_vec-clause-refusal
returns-in_err-push_bit_in_vec-clause-refusal g c =
    let i = c.self.inside in
    let same = c.in_err-push_bit_in_vec.ensures.unchanged in
    let p = err_from_is_err_and c.from_residual.result c.from_residual.ensures.1 in
    rw (p.1, p.2, ← c.self.view_is, c.self.invariant.shows) (record {
      too_long = ((λ e. cc), (λ h. absurd (omega (arith, c.self.invariant.len_small, c.if-self-eq-MAX_BITS.false))));
      memory = λ _. no_room g.T.BitStore.BITS (vec_capacity i.words) i.head (i.len + 1) (width_positive _ g.met.T.BitStore.width) (omega arith) (subst (λ b. vec_capacity i.words < words_for g.T.BitStore.BITS b) (omega arith) c.in_err-push_bit_in_vec.ensures.full);
      unchanged = kept g.T.BitStore g.O.BitOrder i.words.items c.push_bit_in_vec.new.words.items i.head i.len _ _ same;
    })

pub returns-clause-list : goal.returns-clause-list
returns-clause-list g c =
    let i = c.self.inside in
    let w = g.T.BitStore.BITS in
    let bits = row g.T.BitStore g.O.BitOrder i.words.items in
    let fits = shown g.T.BitStore g.O.BitOrder i.words.items i.head i.len g.met.T.BitStore.width c.self.invariant in
    ap (λ r. slice_range r i.head (i.head + (i.len + 1))) c.in_ok-push_bit_in_vec.ensures.bits
    ∙ grown_shows w bits (c.args.bit ∷ []) i.head i.len 1 (width_positive w g.met.T.BitStore.width) fits refl
    ∙ ap (λ v. v.list ++ c.args.bit ∷ []) c.self.view_is

pub returns-clause-row : goal.returns-clause-row
returns-clause-row g c =
    let i = c.self.inside in
    let w = g.T.BitStore.BITS in
    let len : i.len ≡ length c.args.self.now.list = sym c.self.invariant.shows ∙ ap (λ v. length v.list) c.self.view_is in
    grew_by w c.args.self.now _ (c.args.bit ∷ []) (ap (λ v. v.head) c.self.view_is) (returns-clause-list g c)
    (c.in_ok-push_bit_in_vec.ensures.bits ∙ ap (λ v. put (sized w v.row (v.head + i.len + 1)) (v.head + i.len) (c.args.bit ∷ [])) c.self.view_is
    ∙ ap (λ n. put (sized w c.args.self.now.row (c.args.self.now.head + n + 1)) (c.args.self.now.head + n) (c.args.bit ∷ [])) len)

pub returns-clause-clean : goal.returns-clause-clean
returns-clause-clean g c =
    let w = g.T.BitStore.BITS in
    let grew = returns-clause-row g c in
    clean_joined w c.args.self.now _ c.args.bit (width_positive w g.met.T.BitStore.width) grew.head (returns-clause-list g c) grew.row

pub returns-in_err-push_bit_in_vec-clause-no_memory : goal.returns-in_err-push_bit_in_vec-clause-no_memory
returns-in_err-push_bit_in_vec-clause-no_memory g c = λ h.
    let i = c.self.inside in
    let w = g.T.BitStore.BITS in
    let few = subst (λ n. n < bits_in w (vec_capacity i.words) i.head) c.self.invariant.shows (subst (λ v. length v.list < v.capacity) (sym c.self.view_is) h) in
    ap (λ n. bits_in w n i.head) (c.push_bit_in_vec.ensures.no_memory (room_in w (vec_capacity i.words) i.head i.len (width_positive w g.met.T.BitStore.width) few))
    ∙ ap (λ v. v.capacity) c.self.view_is

pub returns-clause-no_memory : goal.returns-clause-no_memory
returns-clause-no_memory g c = λ h.
    let i = c.self.inside in
    let w = g.T.BitStore.BITS in
    let few = subst (λ n. n < bits_in w (vec_capacity i.words) i.head) c.self.invariant.shows (subst (λ v. length v.list < v.capacity) (sym c.self.view_is) h) in
    ap (λ n. bits_in w n i.head) (c.push_bit_in_vec.ensures.no_memory (room_in w (vec_capacity i.words) i.head i.len (width_positive w g.met.T.BitStore.width) few))
    ∙ ap (λ v. v.capacity) c.self.view_is

pub invariant_of-self : goal.invariant_of-self
invariant_of-self g c =
    let i = c.self.inside in
    refilled g.T.BitStore g.O.BitOrder i.words.items c.push_bit_in_vec.new.words.items i.head i.len (ap length c.in_err-push_bit_in_vec.ensures.unchanged) c.self.invariant

pub invariant_of-self-2 : goal.invariant_of-self-2
invariant_of-self-2 g c =
    let i = c.self.inside in
    let count = c.in_ok-push_bit_in_vec.ensures.size ∙ ap (words_for g.T.BitStore.BITS) (omega arith) in
    exactly g.T.BitStore g.O.BitOrder c.push_bit_in_vec.new.words.items i.head (i.len + 1) g.met.T.BitStore.width c.self.invariant.head_below (omega (arith, c.self.invariant.len_small, c.if-self-eq-MAX_BITS.false)) count

pub returns-in_err-push_bit_in_vec-clause-capacity : goal.returns-in_err-push_bit_in_vec-clause-capacity
returns-in_err-push_bit_in_vec-clause-capacity g c = rw (← c.self.view_is) (more_room g.T.BitStore.BITS _ _ c.self.inside.head c.push_bit_in_vec.ensures.capacity)
