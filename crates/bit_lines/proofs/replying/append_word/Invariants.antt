use Rattle.std.proofs.Common.{◌≡◌, ◌-◌, ◌++◌}
use Rattle.bit_lines.specs.Script.{Extends}
use Rattle.bit_lines.specs.Words.{hex_digits}
use Rattle.bit_lines.proofs.replying.append_word.Given as goal

abbrev pub invariant-loop-i : goal.invariant-loop-i
invariant-loop-i g l = record {
  text : l.out.items ++ hex_digits (l.digits - l.i) (g.T.BitStore.value l.fn.word) ≡ l.fn.out.items ++ hex_digits l.digits (g.T.BitStore.value l.fn.word);
  kept : Extends l.fn.out.items l.out.items;
}
