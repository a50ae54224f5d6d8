use Rattle.bit_boxed.proofs.Boxes.{exactly}
use Rattle.bit_boxed.proofs.boxed.BitBox.kept.Goals as goal

pub invariant_of-result : goal.invariant_of-result
invariant_of-result g c = exactly g.T.BitStore g.O.BitOrder c.args.words.items c.args.head c.args.len g.met.T.BitStore.width c.requires.in_word c.requires.few c.requires.exact

pub returns-clause-len : goal.returns-clause-len
returns-clause-len g c = (exactly g.T.BitStore g.O.BitOrder c.args.words.items c.args.head c.args.len g.met.T.BitStore.width c.requires.in_word c.requires.few c.requires.exact).shows
