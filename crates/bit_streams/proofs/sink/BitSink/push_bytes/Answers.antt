use Rattle.std.proofs.Common.{refl, arith}
use Rattle.bit_streams.proofs.Held.{stays_same}
use Rattle.bit_streams.proofs.sink.BitSink.push_bytes.Goals as goal

pub loop-init : goal.loop-init
loop-init g c = (stays_same c.args.self.now.list, omega arith, refl, refl)
