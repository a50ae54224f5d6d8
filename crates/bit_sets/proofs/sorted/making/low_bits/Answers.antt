use Rattle.std.proofs.Common.{◌≡◌, ◌*◌, get_or, length, refl, take, ◌∙◌, ap, arith}
use Rattle.bit_addressing.specs.Row.{binary}
use Rattle.bit_rows.proofs.Binary.{length-binary}
use Rattle.bit_containers.proofs.Removing.{take_before_put}
use Rattle.bit_sets.proofs.Making.{lows_more}
use Rattle.bit_sets.proofs.Packed.{low_inside}
use Rattle.bit_sets.proofs.sorted.making.low_bits.Goals as goal

pub loop-k-preserved : goal.loop-k-preserved
loop-k-preserved c =
    let l = c.loop-k in
    let e = c.store_be_at.ensures in
    let w = c.args.width in
    let xs = c.args.numbers.now in
    let x = get_or xs l.k 0 in
    let inside = low_inside l.k (length xs) w (omega arith) in
    let long = length-binary w x in
    let before : take (l.k * w) c.store_be_at.new.self.list ≡ take (l.k * w) l.list.list =
    ap (take (l.k * w)) e.list ∙ take_before_put l.list.list (binary w x) (l.k * w) (omega (arith, inside, long, l.invariant.size, c.requires.len)) in
    record {
      size = e.stays.len ∙ l.invariant.size;
      each = lows_more w x l.k xs l.list.list c.store_be_at.new.self.list refl l.invariant.each e.written before;
    }
