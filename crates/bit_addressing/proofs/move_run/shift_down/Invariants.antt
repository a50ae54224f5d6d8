use Rattle.std.proofs.Common.{◌≡◌, ◌+◌, ◌*◌, length, map}
use Rattle.bit_addressing.specs.Row.{row_of, moved}
use Rattle.bit_addressing.proofs.move_run.shift_down.Given as goal

abbrev pub invariant-loop-t : goal.invariant-loop-t
invariant-loop-t g l = record {
  same_words : l.row.words.ghost_name ≡ l.fn.row.words.ghost_name;
  size : length l.row.words.now ≡ length l.fn.row.words.now;
  reads : l.row.meter.reads ≡ l.fn.row.meter.reads + 2 * l.t;
  writes : l.row.meter.writes ≡ l.fn.row.meter.writes + l.t;
  bits : row_of g.O.BitOrder.place g.T.BitStore.BITS (map g.T.BitStore.value l.row.words.now) ≡ moved (row_of g.O.BitOrder.place g.T.BitStore.BITS (map g.T.BitStore.value l.fn.row.words.now)) (l.begin * g.T.BitStore.BITS + l.at) (l.first * g.T.BitStore.BITS) (l.t * g.T.BitStore.BITS);
}
