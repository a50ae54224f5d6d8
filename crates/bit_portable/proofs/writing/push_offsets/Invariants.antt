use Rattle.std.proofs.Common.{◌≡◌, ◌++◌, ◌+◌, ◌<◌, ◌^◌, length, drop}
use Rattle.std.specs.List.{flat_map}
use Rattle.bit_portable.specs.Stored.{content_bytes, pieces_lent}
use Rattle.bit_portable.specs.Form.{offset_bytes}
use Rattle.bit_portable.proofs.writing.push_offsets.Given as goal

abbrev pub invariant-loop-block : goal.invariant-loop-block
invariant-loop-block l = record {
  so_far : l.out.items ++ offset_bytes l.at (pieces_lent (drop l.block-index l.blocks)) ≡ l.fn.out.items ++ offset_bytes l.start (pieces_lent l.blocks);
  small : l.at + length (flat_map (λ p. content_bytes p.content) (pieces_lent (drop l.block-index l.blocks))) < 2 ^ 32;
}
