use Rattle.std.proofs.Common.{◌≡◌, ◌+◌, ◌-◌, ◌*◌, ◌%◌, ◌^◌, true, false, ap, ◌∙◌, arith}
use Rattle.std.proofs.lemmas.Option.{get_or_from_slice_get, slice_get_within}
use Rattle.bit_addressing.specs.Binary.{value}
use Rattle.bit_slice.specs.BitSlice.{list_of}
use Rattle.bit_slice.proofs.Numbered.{at_most_index, index_numbered}
use Rattle.bit_sets.specs.Sorted.{low_part}
use Rattle.bit_sets.proofs.Packed.{low_inside, number_fits, shifted}
use Rattle.bit_sets.proofs.sorted.iter.Numbers.number.Goals as goal

pub overflow_mul-from : goal.overflow_mul-from
overflow_mul-from c =
    let s = c.args.self.now in
    let found = index_numbered (λ b. b) (list_of s.high) c.args.place c.args.k (slice_get_within (list_of s.high) c.args.place true c.requires.one) (get_or_from_slice_get (list_of s.high) c.args.place true false c.requires.one) c.requires.before in
    let at = shifted s.len s.width (list_of s.high) (list_of s.low) c.args.k c.args.place s.left.packed found in
    omega (arith, low_inside c.args.k s.len s.width at.0, s.left.packed.few)

pub overflow_add-from : goal.overflow_add-from
overflow_add-from c =
    let s = c.args.self.now in
    let found = index_numbered (λ b. b) (list_of s.high) c.args.place c.args.k (slice_get_within (list_of s.high) c.args.place true c.requires.one) (get_or_from_slice_get (list_of s.high) c.args.place true false c.requires.one) c.requires.before in
    let at = shifted s.len s.width (list_of s.high) (list_of s.low) c.args.k c.args.place s.left.packed found in
    omega (arith, low_inside c.args.k s.len s.width at.0, s.left.packed.few)

pub get_range-requires : goal.get_range-requires
get_range-requires c =
    let s = c.args.self.now in
    let found = index_numbered (λ b. b) (list_of s.high) c.args.place c.args.k (slice_get_within (list_of s.high) c.args.place true c.requires.one) (get_or_from_slice_get (list_of s.high) c.args.place true false c.requires.one) c.requires.before in
    let at = shifted s.len s.width (list_of s.high) (list_of s.low) c.args.k c.args.place s.left.packed found in
    let size = s.whole.1 in
    let lows = s.left.packed.lows in
    record { lies = (omega arith, omega (arith, low_inside c.args.k s.len s.width at.0)) }

pub overflow_sub-result : goal.overflow_sub-result
overflow_sub-result c =
    let most = at_most_index (λ b. b) (list_of c.args.self.now.high) c.args.place in
    let before = c.requires.before in
    omega arith

pub overflow_add-result : goal.overflow_add-result
overflow_add-result c =
    let s = c.args.self.now in
    let found = index_numbered (λ b. b) (list_of s.high) c.args.place c.args.k (slice_get_within (list_of s.high) c.args.place true c.requires.one) (get_or_from_slice_get (list_of s.high) c.args.place true false c.requires.one) c.requires.before in
    let at = shifted s.len s.width (list_of s.high) (list_of s.low) c.args.k c.args.place s.left.packed found in
    let part : c.load_be-low.result ≡ low_part s.width (list_of s.low) c.args.k = c.load_be-low.ensures.value ∙ ap (λ l. value l) c.get_range.ensures.list in
    omega (arith, at.1, part, number_fits s.len s.width (list_of s.high) (list_of s.low) c.args.k s.left.packed at.0)

pub returns : goal.returns
returns c =
    let s = c.args.self.now in
    let found = index_numbered (λ b. b) (list_of s.high) c.args.place c.args.k (slice_get_within (list_of s.high) c.args.place true c.requires.one) (get_or_from_slice_get (list_of s.high) c.args.place true false c.requires.one) c.requires.before in
    let at = shifted s.len s.width (list_of s.high) (list_of s.low) c.args.k c.args.place s.left.packed found in
    let part : c.load_be-low.result ≡ low_part s.width (list_of s.low) c.args.k = c.load_be-low.ensures.value ∙ ap (λ l. value l) c.get_range.ensures.list in
    ap (λ m. (c.args.place - c.args.k) * 2 ^ s.width % 2 ^ 64 + m) part ∙ ap (λ m. m + low_part s.width (list_of s.low) c.args.k) at.1
