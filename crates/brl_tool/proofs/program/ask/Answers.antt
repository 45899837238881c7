use Rattle.brl_answers.specs.Delivery.{world}
use Rattle.brl_tool.proofs.StatusLemmas.{asks}
use Rattle.brl_tool.proofs.program.ask.Goals as goal

pub returns : goal.returns
returns g c =
    let before = world (g.F.Source.gives c.args.files.now) (g.O.Output.failures c.args.out.now) (g.O.Output.contents c.args.out.now) in
    let after = world (g.F.Source.gives c.deliver.new.files) (g.O.Output.failures c.deliver.new.out) (g.O.Output.contents c.deliver.new.out) in
    let answered = c.answer-outcome.ensures in
    asks before (g.O.Output.failures c.answer-outcome.new.out) (g.O.Output.contents c.answer-outcome.new.out) after g.F.Files.same_file c.args.question c.answer-outcome.result c.deliver.result
    (rw answered.same at answered.answers) (rw answered.same at answered.quiet) (rw answered.same at c.deliver.ensures)
