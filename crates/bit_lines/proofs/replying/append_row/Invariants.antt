use Rattle.std.proofs.Common.{◌≡◌, ◌++◌, map, take}
use Rattle.bit_lines.specs.Script.{Extends}
use Rattle.bit_lines.specs.Words.{words_text}
use Rattle.bit_lines.proofs.replying.append_row.Given as goal

abbrev pub invariant-loop-i : goal.invariant-loop-i
invariant-loop-i g l = record {
  text : l.out.items ≡ l.fn.out.items ++ words_text g.T.BitStore.BITS (map g.T.BitStore.value (take l.i l.words));
  kept : Extends l.fn.out.items l.out.items;
}
