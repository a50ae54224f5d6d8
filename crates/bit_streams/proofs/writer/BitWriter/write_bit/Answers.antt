use Rattle.std.proofs.Common.{◌++◌, ◌∙◌, ap}
use Rattle.std.proofs.lemmas.Result.{on_ok_weaker}
use Rattle.bit_streams.proofs.writer.BitWriter.write_bit.Goals as goal

pub returns-then-self-ne0-clause-list : goal.returns-then-self-ne0-clause-list
returns-then-self-ne0-clause-list g c = on_ok_weaker c.append_le.result (λ e. e ∙ ap (λ l. c.args.self.now.list ++ l) c.digit_of.ensures.lowest) c.append_le.ensures.list

pub returns-clause-list : goal.returns-clause-list
returns-clause-list g c = on_ok_weaker c.write.result (λ e. e ∙ ap (λ l. c.args.self.now.list ++ l) c.digit_of-2.ensures.digits) c.write.ensures.list
