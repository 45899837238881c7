use Rattle.std.proofs.Common.{◌∙◌, Err, Ok, subst, sym}
use Rattle.brl_answers.specs.Delivery.{world}
use Rattle.brl_tool.proofs.RunLemmas.{gained_since, performed_one}
use Rattle.brl_tool.proofs.program.run.Goals as goal

pub returns-in-Ok-clause-runs : goal.returns-in-Ok-clause-runs
returns-in-Ok-clause-runs g c = (Ok c.in-Ok.work, subst (g.W.Words.asks c.args.words) c.in-Ok.is c.work.ensures, (c.do_work.result, c.code.ensures, c.do_work.ensures.performs))

pub returns-in-Err-clause-runs : goal.returns-in-Err-clause-runs
returns-in-Err-clause-runs g c = (Err c.in-Err.reply, subst (g.W.Words.asks c.args.words) c.in-Err.is c.work.ensures, (c.answer_words.result, c.code-in-Err.ensures, c.answer_words.ensures))

pub returns-in-Ok-clause-clash : goal.returns-in-Ok-clause-clash
returns-in-Ok-clause-clash g c one =
    let before = world (g.F.Source.gives (g.F.Files.looked c.in-Ok.work.folders c.args.files.now)) (g.O.Output.failures c.args.out.now) (g.O.Output.contents c.args.out.now) in
    let after = world (g.F.Source.gives c.do_work.new.files) (g.O.Output.failures c.do_work.new.out) (g.O.Output.contents c.do_work.new.out) in (
      c.in-Ok.work.folders,
      (performed_one before after g.F.Files.same_file (g.I.Input.remaining c.args.input.now) c.in-Ok.work.task c.do_work.result c.do_work.ensures.performs (sym c.code.ensures ∙ one)).0,
    )

-- what changed since the start
pub returns-in-Ok-clause-same : goal.returns-in-Ok-clause-same
returns-in-Ok-clause-same g c one =
    let gives = g.F.Source.gives in
    let before = world (gives (g.F.Files.looked c.in-Ok.work.folders c.args.files.now)) (g.O.Output.failures c.args.out.now) (g.O.Output.contents c.args.out.now) in
    let after = world (gives c.do_work.new.files) (g.O.Output.failures c.do_work.new.out) (g.O.Output.contents c.do_work.new.out) in
    gained_since (gives c.args.files.now) before.gives after.gives c.do_work.ensures.kept
    (performed_one before after g.F.Files.same_file (g.I.Input.remaining c.args.input.now) c.in-Ok.work.task c.do_work.result c.do_work.ensures.performs (sym c.code.ensures ∙ one)).1
