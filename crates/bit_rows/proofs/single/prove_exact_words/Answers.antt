use Rattle.bit_addressing.proofs.Rows.{width_positive}
use Rattle.bit_rows.proofs.Canon.{exact}
use Rattle.bit_rows.proofs.single.prove_exact_words.Goals as goal

pub returns : goal.returns
returns g c = exact g.T.BitStore.value g.T.BitStore.number g.O.BitOrder.place g.T.BitStore.BITS c.args.words.now g.met.T.BitStore.number_is (width_positive _ g.met.T.BitStore.width) (g.met.O.BitOrder.lawful _ g.met.T.BitStore.width) c.are_words.ensures
