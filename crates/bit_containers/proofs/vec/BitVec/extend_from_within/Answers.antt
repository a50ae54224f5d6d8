use Rattle.std.proofs.Common.{◌≡◌, ◌+◌, ◌-◌, ◌≤◌, ◌++◌, length, slice_range, sym, ◌∙◌, ap, subst, arith, rules}
use Rattle.std.proofs.Common.{vec_capacity}
use Rattle.std.proofs.lemmas.Result.{err_from_is_err_and}
use Rattle.bit_addressing.specs.Row.{put, sized, moved}
use Rattle.bit_addressing.specs.Typed.{row}
use Rattle.bit_addressing.proofs.lists.Shown.{length-between}
use Rattle.bit_addressing.proofs.Rows.{width_positive}
use Rattle.bit_containers.proofs.Vectors.{kept, shown, no_room_for, few_words_for, same_room}
use Rattle.bit_containers.specs.BitVec.{bits_in}
use Rattle.bit_containers.proofs.Clean.{clean_grown}
use Rattle.bit_containers.proofs.Growing.{part_moved, part_joined, grew_by}
use Rattle.bit_containers.proofs.Elements.{exactly, more_room}
use Rattle.bit_containers.proofs.vec.BitVec.extend_from_within.Goals as goal

pub returns-in_err-resize_words_in_vec-clause-refusal : goal.returns-in_err-resize_words_in_vec-clause-refusal
returns-in_err-resize_words_in_vec-clause-refusal g c =
    let i = c.self.inside in
    let w = g.T.BitStore.BITS in
    let now = c.args.self.now in
    let more = c.normalize-range.result.end - c.normalize-range.result.start in
    let least : length i.words.items ≤ vec_capacity i.words = search rules in
    let len : i.len ≡ length now.list = sym c.self.invariant.shows ∙ ap (λ v. length v.list) c.self.view_is in
    let end : c.normalize-range.result.end ≡ g.R.RangeExt.end_of c.args.range (length now.list) = c.normalize-range.ensures.end ∙ ap (g.R.RangeExt.end_of c.args.range) len in
    let start = c.normalize-range.ensures.start in
    let wanted : length now.list + (g.R.RangeExt.end_of c.args.range (length now.list) - g.R.RangeExt.start_of c.args.range) ≡ i.len + more = omega arith in
    let p = err_from_is_err_and c.from_residual.result c.from_residual.ensures.1 in
    rw (p.1, p.2, wanted, ← c.self.view_is) (record {
      too_long = ((λ e. cc), (λ h. absurd (omega (arith, c.self.invariant.len_small, c.if-more-self.false))));
      memory = λ _. no_room_for w (length i.words.items) (vec_capacity i.words) i.head i.len (i.len + more) (width_positive w g.met.T.BitStore.width) c.self.invariant least (omega arith) c.in_err-resize_words_in_vec.ensures.full;
      unchanged = kept g.T.BitStore g.O.BitOrder i.words.items c.resize_words_in_vec.new.words.items i.head i.len _ _ c.in_err-resize_words_in_vec.ensures.unchanged;
    })

pub move_bits_in_vec-requires-clause-room : goal.move_bits_in_vec-requires-clause-room
move_bits_in_vec-requires-clause-room g c =
    let i = c.self.inside in
    let w = g.T.BitStore.BITS in
    few_words_for w i.head (i.len + (c.normalize-range.result.end - c.normalize-range.result.start)) (length c.resize_words_in_vec.new.words.items) (width_positive w g.met.T.BitStore.width) c.self.invariant.head_below (omega (arith, c.self.invariant.len_small, c.if-more-self.false)) c.in_ok-resize_words_in_vec.ensures.size

pub returns-clause-list : goal.returns-clause-list
returns-clause-list g c =
    let i = c.self.inside in
    let w = g.T.BitStore.BITS in
    let now = c.args.self.now in
    let from = c.normalize-range.result.start in
    let upto = c.normalize-range.result.end in
    let bits = row g.T.BitStore g.O.BitOrder i.words.items in
    let fits = shown g.T.BitStore g.O.BitOrder i.words.items i.head i.len g.met.T.BitStore.width c.self.invariant in
    let len : i.len ≡ length now.list = sym c.self.invariant.shows ∙ ap (λ v. length v.list) c.self.view_is in
    let end : upto ≡ g.R.RangeExt.end_of c.args.range (length now.list) = c.normalize-range.ensures.end ∙ ap (g.R.RangeExt.end_of c.args.range) len in
    let start : from ≡ g.R.RangeExt.start_of c.args.range = c.normalize-range.ensures.start in
    let o = c.requires.lies.0 in
    let h = c.requires.lies.1 in
    let beyond : from + (upto - from) ≡ upto = omega arith in
    ap (λ r. slice_range r i.head (i.head + (i.len + (upto - from)))) (c.move_bits_in_vec.ensures.bits ∙ ap (λ r. moved r (i.head + from) (i.head + i.len) (upto - from)) c.in_ok-resize_words_in_vec.ensures.bits)
    ∙ part_joined w bits i.head i.len from (upto - from) (width_positive w g.met.T.BitStore.width) (omega arith) fits
    ∙ ap (λ v. v.list ++ slice_range v.list from (from + (upto - from))) c.self.view_is
    ∙ ap (λ n. now.list ++ slice_range now.list from n) (beyond ∙ end) ∙ ap (λ n. now.list ++ slice_range now.list n (g.R.RangeExt.end_of c.args.range (length now.list))) start

pub returns-clause-row : goal.returns-clause-row
returns-clause-row g c =
    let i = c.self.inside in
    let w = g.T.BitStore.BITS in
    let now = c.args.self.now in
    let from = c.normalize-range.result.start in
    let upto = c.normalize-range.result.end in
    let bits = row g.T.BitStore g.O.BitOrder i.words.items in
    let fits = shown g.T.BitStore g.O.BitOrder i.words.items i.head i.len g.met.T.BitStore.width c.self.invariant in
    let len : i.len ≡ length now.list = sym c.self.invariant.shows ∙ ap (λ v. length v.list) c.self.view_is in
    let end : upto ≡ g.R.RangeExt.end_of c.args.range (length now.list) = c.normalize-range.ensures.end ∙ ap (g.R.RangeExt.end_of c.args.range) len in
    let start : from ≡ g.R.RangeExt.start_of c.args.range = c.normalize-range.ensures.start in
    let o = c.requires.lies.0 in
    let h = c.requires.lies.1 in
    let beyond : from + (upto - from) ≡ upto = omega arith in
    let size : length (slice_range now.list (g.R.RangeExt.start_of c.args.range) (g.R.RangeExt.end_of c.args.range (length now.list))) ≡ upto - from =
    length-between now.list (g.R.RangeExt.start_of c.args.range) (g.R.RangeExt.end_of c.args.range (length now.list)) h ∙ (omega arith) in
    grew_by w now _ (slice_range now.list (g.R.RangeExt.start_of c.args.range) (g.R.RangeExt.end_of c.args.range (length now.list))) (ap (λ v. v.head) c.self.view_is) (returns-clause-list g c)
    (c.move_bits_in_vec.ensures.bits ∙ ap (λ r. moved r (i.head + from) (i.head + i.len) (upto - from)) c.in_ok-resize_words_in_vec.ensures.bits
    ∙ part_moved w bits i.head i.len from (upto - from) (width_positive w g.met.T.BitStore.width) (omega arith) fits
    ∙ ap (λ v. put (sized w v.row (v.head + i.len + (upto - from))) (v.head + i.len) (slice_range v.list from (from + (upto - from)))) c.self.view_is
    ∙ ap (λ n. put (sized w now.row (now.head + n + (upto - from))) (now.head + n) (slice_range now.list from (from + (upto - from)))) len
    ∙ ap (λ n. put (sized w now.row (now.head + length now.list + n)) (now.head + length now.list) (slice_range now.list from (from + (upto - from)))) (sym size)
    ∙ ap (λ n. put (sized w now.row (now.head + length now.list + length (slice_range now.list (g.R.RangeExt.start_of c.args.range) (g.R.RangeExt.end_of c.args.range (length now.list))))) (now.head + length now.list) (slice_range now.list from n)) (beyond ∙ end)
    ∙ ap (λ n. put (sized w now.row (now.head + length now.list + length (slice_range now.list (g.R.RangeExt.start_of c.args.range) (g.R.RangeExt.end_of c.args.range (length now.list))))) (now.head + length now.list) (slice_range now.list n (g.R.RangeExt.end_of c.args.range (length now.list)))) start)

pub returns-clause-clean : goal.returns-clause-clean
returns-clause-clean g c clean =
    let grew = returns-clause-row g c in
    clean_grown g.T.BitStore.BITS c.args.self.now _ _ (width_positive g.T.BitStore.BITS g.met.T.BitStore.width) grew.head (returns-clause-list g c) grew.row clean

pub returns-in_err-resize_words_in_vec-clause-capacity : goal.returns-in_err-resize_words_in_vec-clause-capacity
returns-in_err-resize_words_in_vec-clause-capacity g c = rw (← c.self.view_is) (more_room g.T.BitStore.BITS _ _ c.self.inside.head c.resize_words_in_vec.ensures.capacity)

pub returns-clause-capacity : goal.returns-clause-capacity
returns-clause-capacity g c = rw (← c.self.view_is) (more_room g.T.BitStore.BITS (vec_capacity c.self.inside.words) (vec_capacity c.move_bits_in_vec.new.words) c.self.inside.head (omega (arith, c.move_bits_in_vec.ensures.capacity, c.resize_words_in_vec.ensures.capacity)))

pub invariant_of-self-2 : goal.invariant_of-self-2
invariant_of-self-2 g c =
    let i = c.self.inside in
    let count = c.move_bits_in_vec.ensures.size ∙ c.in_ok-resize_words_in_vec.ensures.size in
    exactly g.T.BitStore g.O.BitOrder c.move_bits_in_vec.new.words.items i.head (i.len + (c.normalize-range.result.end - c.normalize-range.result.start)) g.met.T.BitStore.width c.self.invariant.head_below (omega (arith, c.self.invariant.len_small, c.if-more-self.false)) count

pub returns-in_err-resize_words_in_vec-clause-no_memory : goal.returns-in_err-resize_words_in_vec-clause-no_memory
returns-in_err-resize_words_in_vec-clause-no_memory g c h =
    let i = c.self.inside in
    let w = g.T.BitStore.BITS in
    let now = c.args.self.now in
    let more = c.normalize-range.result.end - c.normalize-range.result.start in
    let least : length i.words.items ≤ vec_capacity i.words = search rules in
    let len : i.len ≡ length now.list = sym c.self.invariant.shows ∙ ap (λ v. length v.list) c.self.view_is in
    let end : c.normalize-range.result.end ≡ g.R.RangeExt.end_of c.args.range (length now.list) = c.normalize-range.ensures.end ∙ ap (g.R.RangeExt.end_of c.args.range) len in
    let start = c.normalize-range.ensures.start in
    let wanted : length now.list + (g.R.RangeExt.end_of c.args.range (length now.list) - g.R.RangeExt.start_of c.args.range) ≡ i.len + more = omega arith in
    let few = subst (λ n. n ≤ bits_in w (vec_capacity i.words) i.head) wanted (subst (λ v. length now.list + (g.R.RangeExt.end_of c.args.range (length now.list) - g.R.RangeExt.start_of c.args.range) ≤ v.capacity) (sym c.self.view_is) h) in
    same_room w (length i.words.items) (vec_capacity i.words) (vec_capacity c.resize_words_in_vec.new.words) i.head i.len (i.len + more) (width_positive w g.met.T.BitStore.width) c.self.invariant least (omega arith) c.resize_words_in_vec.ensures.no_memory few
    ∙ ap (λ v. v.capacity) c.self.view_is

pub returns-clause-no_memory : goal.returns-clause-no_memory
returns-clause-no_memory g c h =
    let i = c.self.inside in
    let w = g.T.BitStore.BITS in
    let now = c.args.self.now in
    let more = c.normalize-range.result.end - c.normalize-range.result.start in
    let least : length i.words.items ≤ vec_capacity i.words = search rules in
    let len : i.len ≡ length now.list = sym c.self.invariant.shows ∙ ap (λ v. length v.list) c.self.view_is in
    let end : c.normalize-range.result.end ≡ g.R.RangeExt.end_of c.args.range (length now.list) = c.normalize-range.ensures.end ∙ ap (g.R.RangeExt.end_of c.args.range) len in
    let start = c.normalize-range.ensures.start in
    let wanted : length now.list + (g.R.RangeExt.end_of c.args.range (length now.list) - g.R.RangeExt.start_of c.args.range) ≡ i.len + more = omega arith in
    let few = subst (λ n. n ≤ bits_in w (vec_capacity i.words) i.head) wanted (subst (λ v. length now.list + (g.R.RangeExt.end_of c.args.range (length now.list) - g.R.RangeExt.start_of c.args.range) ≤ v.capacity) (sym c.self.view_is) h) in
    ap (λ m. bits_in w m i.head) c.move_bits_in_vec.ensures.capacity
    ∙ same_room w (length i.words.items) (vec_capacity i.words) (vec_capacity c.resize_words_in_vec.new.words) i.head i.len (i.len + more) (width_positive w g.met.T.BitStore.width) c.self.invariant least (omega arith) c.resize_words_in_vec.ensures.no_memory few
    ∙ ap (λ v. v.capacity) c.self.view_is
