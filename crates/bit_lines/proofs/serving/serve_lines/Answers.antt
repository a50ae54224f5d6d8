use Rattle.bit_lines.proofs.Written.{results_transcribed}
use Rattle.bit_lines.proofs.serving.serve_lines.Goals as goal

pub returns-clause-transcribed : goal.returns-clause-transcribed
returns-clause-transcribed g c =
    results_transcribed (g.S.Source.left c.args.input.now) (g.K.Sink.held c.args.output.now) (g.K.Sink.held c.serve_script.new.output) c.serve_script.result c.serve_script.ensures.served
