use Rattle.std.proofs.Common.{length}
use Rattle.bit_slice.proofs.Parts.{made}
use Rattle.bit_slice.proofs.slice_mut.BitSliceMut.from_parts_mut.Goals as goal

pub invariant_of-result : goal.invariant_of-result
invariant_of-result g c = record { fits = made g.T.BitStore.BITS (length c.args.words.now) c.args.head c.args.len g.met.T.BitStore.width c.requires.in_word c.requires.few c.requires.exact }
