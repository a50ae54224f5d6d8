use Rattle.std.proofs.Common.{◌≡◌, ℕ, ◌+◌, ◌<◌, ◌≤◌, ◌++◌, length, slice_range, sym, ◌∙◌, ap, subst, arith, rules}
use Rattle.std.proofs.Common.{vec_capacity}
use Rattle.std.proofs.lemmas.Result.{err_from_is_err_and}
use Rattle.bit_addressing.specs.Row.{put, sized, words_for, number_bits}
use Rattle.bit_addressing.specs.Typed.{row}
use Rattle.bit_addressing.proofs.lists.Shown.{grown_shows}
use Rattle.bit_addressing.proofs.Rows.{width_positive}
use Rattle.bit_containers.proofs.Vectors.{kept, shown, no_room_for, refilled, same_room}
use Rattle.bit_rows.proofs.Binary.{length-number_bits}
use Rattle.bit_containers.proofs.Growing.{grew_by}
use Rattle.bit_containers.proofs.Clean.{clean_grown}
use Rattle.bit_containers.proofs.Elements.{exactly, more_room}
use Rattle.bit_containers.proofs.vec.BitVec.push_le.Goals as goal

pub returns-in_err-push_chunk_in_vec-clause-refusal : goal.returns-in_err-push_chunk_in_vec-clause-refusal
returns-in_err-push_chunk_in_vec-clause-refusal g c =
    let i = c.self.inside in
    let w = g.T.BitStore.BITS in
    let least : length i.words.items ≤ vec_capacity i.words = search rules in
    let p = err_from_is_err_and c.from_residual.result c.from_residual.ensures.1 in
    rw (p.1, p.2, ← c.self.view_is, c.self.invariant.shows) (record {
      too_long = ((λ e. cc), (λ h. absurd (omega (arith, c.self.invariant.len_small, c.if-more-self.false))));
      memory = λ _. no_room_for w (length i.words.items) (vec_capacity i.words) i.head i.len (i.len + c.args.n) (width_positive w g.met.T.BitStore.width) c.self.invariant least (omega arith) (subst (λ m. vec_capacity i.words < words_for w m) (omega arith) c.in_err-push_chunk_in_vec.ensures.full);
      unchanged = kept g.T.BitStore g.O.BitOrder i.words.items c.push_chunk_in_vec.new.words.items i.head i.len _ _ c.in_err-push_chunk_in_vec.ensures.unchanged;
    })

pub returns-clause-list : goal.returns-clause-list
returns-clause-list g c =
    let i = c.self.inside in
    let w = g.T.BitStore.BITS in
    let n = c.args.n in
    let bits = number_bits c.args.number n in
    let old = row g.T.BitStore g.O.BitOrder i.words.items in
    let fits = shown g.T.BitStore g.O.BitOrder i.words.items i.head i.len g.met.T.BitStore.width c.self.invariant in
    ap (λ r. slice_range r i.head (i.head + (i.len + n))) c.in_ok-push_chunk_in_vec.ensures.bits
    ∙ grown_shows w old bits i.head i.len n (width_positive w g.met.T.BitStore.width) fits (sym (length-number_bits c.args.number n))
    ∙ ap (λ v. v.list ++ bits) c.self.view_is

pub returns-clause-row : goal.returns-clause-row
returns-clause-row g c =
    let i = c.self.inside in
    let w = g.T.BitStore.BITS in
    let n = c.args.n in
    let now = c.args.self.now in
    let bits = number_bits c.args.number n in
    let old = row g.T.BitStore g.O.BitOrder i.words.items in
    let len : i.len ≡ length now.list = sym c.self.invariant.shows ∙ ap (λ v. length v.list) c.self.view_is in
    grew_by w now _ bits (ap (λ v. v.head) c.self.view_is) (returns-clause-list g c)
    (c.in_ok-push_chunk_in_vec.ensures.bits
    ∙ ap (λ v. put (sized w v.row (v.head + i.len + n)) (v.head + i.len) bits) c.self.view_is
    ∙ ap (λ m. put (sized w now.row (now.head + m + n)) (now.head + m) bits) len
    ∙ ap (λ m. put (sized w now.row (now.head + length now.list + m)) (now.head + length now.list) bits) (sym (length-number_bits c.args.number n)))

pub returns-clause-clean : goal.returns-clause-clean
returns-clause-clean g c =
    let w = g.T.BitStore.BITS in
    clean_grown w c.args.self.now _ (number_bits c.args.number c.args.n) (width_positive w g.met.T.BitStore.width) (returns-clause-row g c).head (returns-clause-list g c) (returns-clause-row g c).row

pub returns-clause-len : goal.returns-clause-len
returns-clause-len g c = let digits = length-number_bits c.args.number c.args.n in omega (arith, (returns-clause-row g c).len)

pub invariant_of-self : goal.invariant_of-self
invariant_of-self g c =
    let i = c.self.inside in
    refilled g.T.BitStore g.O.BitOrder i.words.items c.push_chunk_in_vec.new.words.items i.head i.len (ap length c.in_err-push_chunk_in_vec.ensures.unchanged) c.self.invariant

pub invariant_of-self-2 : goal.invariant_of-self-2
invariant_of-self-2 g c =
    let i = c.self.inside in
    let count = c.in_ok-push_chunk_in_vec.ensures.size ∙ ap (words_for g.T.BitStore.BITS) (omega arith) in
    exactly g.T.BitStore g.O.BitOrder c.push_chunk_in_vec.new.words.items i.head (i.len + c.args.n) g.met.T.BitStore.width c.self.invariant.head_below (omega (arith, c.self.invariant.len_small, c.if-more-self.false)) count

pub returns-in_err-push_chunk_in_vec-clause-capacity : goal.returns-in_err-push_chunk_in_vec-clause-capacity
returns-in_err-push_chunk_in_vec-clause-capacity g c = rw (← c.self.view_is) (more_room g.T.BitStore.BITS _ _ c.self.inside.head c.push_chunk_in_vec.ensures.capacity)

pub returns-clause-capacity : goal.returns-clause-capacity
returns-clause-capacity g c = rw (← c.self.view_is) (more_room g.T.BitStore.BITS _ _ c.self.inside.head c.push_chunk_in_vec.ensures.capacity)

pub returns-in_err-push_chunk_in_vec-clause-no_memory : goal.returns-in_err-push_chunk_in_vec-clause-no_memory
returns-in_err-push_chunk_in_vec-clause-no_memory g c h =
    let i = c.self.inside in
    let w = g.T.BitStore.BITS in
    let later : ℕ = vec_capacity c.push_chunk_in_vec.new.words in
    let least : length i.words.items ≤ vec_capacity i.words = search rules in
    let few = subst (λ v. length v.list + c.args.n ≤ v.capacity) (sym c.self.view_is) h in
    let stays : words_for w (i.head + (i.len + c.args.n)) ≤ vec_capacity i.words → later ≡ vec_capacity i.words = subst (λ m. words_for w m ≤ vec_capacity i.words → later ≡ vec_capacity i.words) (omega arith) c.push_chunk_in_vec.ensures.no_memory in
    same_room w (length i.words.items) (vec_capacity i.words) later i.head i.len (i.len + c.args.n) (width_positive w g.met.T.BitStore.width) c.self.invariant least (omega arith) stays (omega (arith, few, c.self.invariant.shows))
    ∙ ap (λ v. v.capacity) c.self.view_is

pub returns-clause-no_memory : goal.returns-clause-no_memory
returns-clause-no_memory g c h =
    let i = c.self.inside in
    let w = g.T.BitStore.BITS in
    let later : ℕ = vec_capacity c.push_chunk_in_vec.new.words in
    let least : length i.words.items ≤ vec_capacity i.words = search rules in
    let few = subst (λ v. length v.list + c.args.n ≤ v.capacity) (sym c.self.view_is) h in
    let stays : words_for w (i.head + (i.len + c.args.n)) ≤ vec_capacity i.words → later ≡ vec_capacity i.words = subst (λ m. words_for w m ≤ vec_capacity i.words → later ≡ vec_capacity i.words) (omega arith) c.push_chunk_in_vec.ensures.no_memory in
    same_room w (length i.words.items) (vec_capacity i.words) later i.head i.len (i.len + c.args.n) (width_positive w g.met.T.BitStore.width) c.self.invariant least (omega arith) stays (omega (arith, few, c.self.invariant.shows))
    ∙ ap (λ v. v.capacity) c.self.view_is
