use Rattle.std.proofs.Common.{◌∙◌, ap, subst, sym}
use Rattle.brl_lines.specs.Answer.{FileAnswers}
use Rattle.brl_answers.specs.Delivery.{world}
use Rattle.brl_tool.specs.Running.{Performs}
use Rattle.brl_tool.proofs.program.do_work.Goals as goal

pub returns-clause-performs : goal.returns-clause-performs
returns-clause-performs g c =
    let gives = g.F.Source.gives in
    let after = world (gives c.perform.new.files) (g.O.Output.failures c.perform.new.out) (g.O.Output.contents c.perform.new.out) in
    subst
    (λ files. Performs c.args.work.task g.F.Files.same_file (g.I.Input.remaining c.args.input.now) (world (gives files) (g.O.Output.failures c.args.out.now) (g.O.Output.contents c.args.out.now)) after c.perform.result)
    c.look_in.ensures.looked c.perform.ensures

pub returns-clause-kept : goal.returns-clause-kept
returns-clause-kept g c =
    let gives = g.F.Source.gives in
    ap (λ files. (gives files).may) (sym c.look_in.ensures.looked) ∙ ap (λ (gives : FileAnswers). gives.may) c.look_in.ensures.looks
