use Rattle.std.proofs.Common.{◌≡◌, ◌-◌, map, not, slice_range, refl, ◌∙◌, ap, arith}
use Rattle.std.proofs.lemmas.List.{length-map, take_all}
use Rattle.bit_addressing.specs.Row.{put}
use Rattle.bit_slice.proofs.Shown.{put_all}
use Rattle.bit_fixed.proofs.bits.AnyBits.flip_all.Goals as goal

pub returns-clause-list : goal.returns-clause-list
returns-clause-list g c =
    let xs = g.B.BitList.list c.args.self.now in
    let n = c.len-len.result in
    let whole : slice_range xs 0 n ≡ xs = take_all (n - 0) xs (omega (arith, c.len-len.ensures.list)) in
    c.flip_range.ensures.list ∙ ap (λ ys. put xs 0 (map not ys)) whole ∙ put_all xs (map not xs) 0 refl (length-map xs not)
