use Rattle.std.proofs.Common.{refl}
use Rattle.bit_matrix.specs.Matrix.{item}
use Rattle.bit_matrix.proofs.Ranks.{reducing_none}
use Rattle.bit_matrix.proofs.matrix.Matrix.reduce_row.Goals as goal

pub loop-before-init : goal.loop-before-init
loop-before-init c = record {
  alike = (refl, refl);
  reduced = λ a was. reducing_none a (item c.args.self.now) c.args.self.now.rows c.args.self.now.columns c.args.row c.requires was;
}
