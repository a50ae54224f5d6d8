use Rattle.std.proofs.Common.{◌≡◌, ℕ, ◌+◌, ◌*◌, ◌<◌, length, slice_index_or}
use Rattle.bit_addressing.specs.Table.{IsEntry}
use Rattle.bit_addressing.proofs.pair_table.fill_entries.Given as goal

-- the entries of the groups before `k` are made
abbrev pub invariant-loop-k : goal.invariant-loop-k
invariant-loop-k l = record {
  size : length l.entries ≡ 256;
  bits : (f u : ℕ) → u < 16 → f * 16 + u < l.k * 16 → IsEntry l.columns f u (slice_index_or l.entries (f * 16 + u) 0);
}

-- and those of group `k` before `v`
abbrev pub invariant-loop-v : goal.invariant-loop-v
invariant-loop-v l = record {
  size : length l.entries ≡ 256;
  bits : (f u : ℕ) → u < 16 → f * 16 + u < l.k * 16 + l.v → IsEntry l.columns f u (slice_index_or l.entries (f * 16 + u) 0);
}
