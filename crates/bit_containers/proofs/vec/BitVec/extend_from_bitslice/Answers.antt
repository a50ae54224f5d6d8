use Rattle.std.proofs.Common.{◌≡◌, ◌+◌, ◌≤◌, length, sym, ◌∙◌, ap, subst, arith, rules}
use Rattle.std.proofs.Common.{vec_capacity}
use Rattle.std.proofs.lemmas.Result.{err_from_is_err_and}
use Rattle.bit_addressing.specs.Row.{put, sized}
use Rattle.bit_addressing.specs.Typed.{row}
use Rattle.bit_addressing.proofs.lists.Shown.{joined_shows, length-run}
use Rattle.bit_addressing.proofs.Rows.{width_positive, width_small}
use Rattle.bit_slice.proofs.Parts.{in_row}
use Rattle.bit_slice.specs.BitSlice.{len_of, list_of}
use Rattle.bit_containers.proofs.Vectors.{kept, shown, no_room_for, same_room}
use Rattle.bit_containers.specs.BitVec.{bits_in}
use Rattle.bit_containers.proofs.Clean.{clean_grown}
use Rattle.bit_containers.proofs.Elements.{exactly, more_room}
use Rattle.bit_containers.proofs.Growing.{grew_by}
use Rattle.bit_containers.proofs.vec.BitVec.extend_from_bitslice.Goals as goal

pub returns-in_err-resize_words_in_vec-clause-refusal : goal.returns-in_err-resize_words_in_vec-clause-refusal
returns-in_err-resize_words_in_vec-clause-refusal g c =
    let i = c.self.inside in
    let w = g.T.BitStore.BITS in
    let more = c.len-more.result in
    let least : length i.words.items ≤ vec_capacity i.words = search rules in
    let p = err_from_is_err_and c.from_residual.result c.from_residual.ensures.1 in
    rw (p.1, p.2, ← c.self.view_is, c.self.invariant.shows, ← c.len-more.ensures.value) (record {
      too_long = ((λ e. cc), (λ h. absurd (omega (arith, c.self.invariant.len_small, c.if-more-self.false))));
      memory = λ _. no_room_for w (length i.words.items) (vec_capacity i.words) i.head i.len (i.len + more) (width_positive w g.met.T.BitStore.width) c.self.invariant least (omega arith) c.in_err-resize_words_in_vec.ensures.full;
      unchanged = kept g.T.BitStore g.O.BitOrder i.words.items c.resize_words_in_vec.new.words.items i.head i.len _ _ c.in_err-resize_words_in_vec.ensures.unchanged;
    })

pub returns-clause-list : goal.returns-clause-list
returns-clause-list g c =
    let i = c.self.inside in
    let s = c.args.view in
    let w = g.T.BitStore.BITS in
    let fits = shown g.T.BitStore g.O.BitOrder i.words.items i.head i.len g.met.T.BitStore.width c.self.invariant in
    let inside = in_row g.U.BitStore g.P.BitOrder s.words.now (s.head + s.len) s.fits.room in
    rw (← c.self.view_is, c.copy_bits_in_vec.ensures.bits, c.in_ok-resize_words_in_vec.ensures.bits, c.as_raw_slice.ensures.words, c.head-from.ensures.value, c.len-more.ensures.value)
    (joined_shows w (row g.T.BitStore g.O.BitOrder i.words.items) (row g.U.BitStore g.P.BitOrder s.words.now) i.head i.len s.head s.len (width_positive w g.met.T.BitStore.width) fits inside)

pub returns-clause-row : goal.returns-clause-row
returns-clause-row g c =
    let i = c.self.inside in
    let s = c.args.view in
    let now = c.args.self.now in
    let w = g.T.BitStore.BITS in
    let size : length (list_of s) ≡ s.len = length-run (row g.U.BitStore g.P.BitOrder s.words.now) s.head s.len (in_row g.U.BitStore g.P.BitOrder s.words.now (s.head + s.len) s.fits.room) in
    let len : i.len ≡ length now.list = sym c.self.invariant.shows ∙ ap (λ v. length v.list) c.self.view_is in
    let head : i.head ≡ now.head = ap (λ v. v.head) c.self.view_is in
    let upto : i.head + (i.len + c.len-more.result) ≡ now.head + length now.list + length (list_of s) = omega (arith, c.len-more.ensures.value) in
    let grown : row g.T.BitStore g.O.BitOrder c.copy_bits_in_vec.new.words.items ≡ put (sized w now.row (now.head + length now.list + length (list_of s))) (now.head + length now.list) (list_of s) =
    c.copy_bits_in_vec.ensures.bits ∙ rw (c.in_ok-resize_words_in_vec.ensures.bits, c.as_raw_slice.ensures.words, c.head-from.ensures.value, ← upto, ← len, ← head, c.len-more.ensures.value) (ap (λ v. put (sized w v.row (i.head + (i.len + s.len))) (i.head + i.len) (list_of s)) c.self.view_is) in
    grew_by w now _ (list_of s) head (returns-clause-list g c) grown

pub returns-clause-clean : goal.returns-clause-clean
returns-clause-clean g c clean =
    let grew = returns-clause-row g c in
    clean_grown g.T.BitStore.BITS c.args.self.now _ (list_of c.args.view) (width_positive g.T.BitStore.BITS g.met.T.BitStore.width) grew.head (returns-clause-list g c) grew.row clean

pub returns-in_err-resize_words_in_vec-clause-capacity : goal.returns-in_err-resize_words_in_vec-clause-capacity
returns-in_err-resize_words_in_vec-clause-capacity g c = rw (← c.self.view_is) (more_room g.T.BitStore.BITS _ _ c.self.inside.head c.resize_words_in_vec.ensures.capacity)

pub returns-clause-capacity : goal.returns-clause-capacity
returns-clause-capacity g c = rw (← c.self.view_is) (more_room g.T.BitStore.BITS (vec_capacity c.self.inside.words) (vec_capacity c.copy_bits_in_vec.new.words) c.self.inside.head (omega (arith, c.copy_bits_in_vec.ensures.capacity, c.resize_words_in_vec.ensures.capacity)))

pub overflow_add-self-inside : goal.overflow_add-self-inside
overflow_add-self-inside g c = let small = width_small g.T.BitStore.BITS g.met.T.BitStore.width in omega (arith, c.self.invariant.head_below, c.self.invariant.len_small)

pub copy_bits_in_vec-requires-clause-source_fits : goal.copy_bits_in_vec-requires-clause-source_fits
copy_bits_in_vec-requires-clause-source_fits g c = let small = width_small g.U.BitStore.BITS g.met.U.BitStore.width in let f = c.args.view.fits in omega (arith, c.head-from.ensures.value, c.len-more.ensures.value, f)

pub invariant_of-self-2 : goal.invariant_of-self-2
invariant_of-self-2 g c =
    let i = c.self.inside in
    let count = c.copy_bits_in_vec.ensures.size ∙ c.in_ok-resize_words_in_vec.ensures.size in
    exactly g.T.BitStore g.O.BitOrder c.copy_bits_in_vec.new.words.items i.head (i.len + c.len-more.result) g.met.T.BitStore.width c.self.invariant.head_below (omega (arith, c.self.invariant.len_small, c.if-more-self.false)) count

pub returns-in_err-resize_words_in_vec-clause-no_memory : goal.returns-in_err-resize_words_in_vec-clause-no_memory
returns-in_err-resize_words_in_vec-clause-no_memory g c h =
    let i = c.self.inside in
    let w = g.T.BitStore.BITS in
    let least : length i.words.items ≤ vec_capacity i.words = search rules in
    let few = subst (λ v. length v.list + len_of c.args.view ≤ v.capacity) (sym c.self.view_is) h in
    same_room w (length i.words.items) (vec_capacity i.words) (vec_capacity c.resize_words_in_vec.new.words) i.head i.len (i.len + c.len-more.result) (width_positive w g.met.T.BitStore.width) c.self.invariant least (omega arith) c.resize_words_in_vec.ensures.no_memory (omega (arith, few, c.self.invariant.shows, c.len-more.ensures.value))
    ∙ ap (λ v. v.capacity) c.self.view_is

pub returns-clause-no_memory : goal.returns-clause-no_memory
returns-clause-no_memory g c h =
    let i = c.self.inside in
    let w = g.T.BitStore.BITS in
    let least : length i.words.items ≤ vec_capacity i.words = search rules in
    let few = subst (λ v. length v.list + len_of c.args.view ≤ v.capacity) (sym c.self.view_is) h in
    ap (λ m. bits_in w m i.head) c.copy_bits_in_vec.ensures.capacity
    ∙ same_room w (length i.words.items) (vec_capacity i.words) (vec_capacity c.resize_words_in_vec.new.words) i.head i.len (i.len + c.len-more.result) (width_positive w g.met.T.BitStore.width) c.self.invariant least (omega arith) c.resize_words_in_vec.ensures.no_memory (omega (arith, few, c.self.invariant.shows, c.len-more.ensures.value))
    ∙ ap (λ v. v.capacity) c.self.view_is
