use Rattle.std.proofs.Common.{take, ◌∙◌, ap}
use Rattle.bit_streams.proofs.Lows.{no_tail}
use Rattle.bit_streams.proofs.writer.BitWriter.cut.Goals as goal

pub returns-clause-list : goal.returns-clause-list
returns-clause-list g c = no_tail c.truncate.new.self.list 0 ∙ c.truncate.ensures.list ∙ ap (take c.args.n) (c.join_le.ensures.list ∙ ap (λ v. v.list) c.self.view_is)
