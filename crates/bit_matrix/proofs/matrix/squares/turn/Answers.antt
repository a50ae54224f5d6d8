use Rattle.bit_matrix.proofs.Turning.{lower_1, lower_2, lower_4, lower_8, lower_16, lower_32, turned}
use Rattle.bit_matrix.proofs.matrix.squares.turn.Goals as goal

pub weave-requires : goal.weave-requires
weave-requires c = lower_32

pub weave-requires-2 : goal.weave-requires-2
weave-requires-2 c = lower_16

pub weave-requires-3 : goal.weave-requires-3
weave-requires-3 c = lower_8

pub weave-requires-4 : goal.weave-requires-4
weave-requires-4 c = lower_4

pub weave-requires-5 : goal.weave-requires-5
weave-requires-5 c = lower_2

pub weave-requires-6 : goal.weave-requires-6
weave-requires-6 c = lower_1

pub returns : goal.returns
returns c =
    turned c.args.square.now c.weave.new.to c.weave-2.new.to c.weave-3.new.to c.weave-4.new.to c.weave-5.new.to c.weave-6.new.to
    c.weave.ensures c.weave-2.ensures c.weave-3.ensures c.weave-4.ensures c.weave-5.ensures c.weave-6.ensures
