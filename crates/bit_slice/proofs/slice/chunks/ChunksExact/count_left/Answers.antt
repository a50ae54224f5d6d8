use Rattle.std.proofs.Common.{◌-◌, ◌*◌, sym}
use Rattle.std.proofs.lemmas.List.FromFn.{length-map-range_with_len}
use Rattle.bit_slice.specs.BitSlice.{list_of}
use Rattle.bit_slice.specs.Pieces.{part}
use Rattle.bit_slice.proofs.slice.chunks.ChunksExact.count_left.Goals as goal

pub returns : goal.returns
returns g c =
    let s = c.args.self.now in
    sym (length-map-range_with_len (λ k. part s.size (list_of s.view) (k * s.size)) s.from (s.upto - s.from))
