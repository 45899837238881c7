use Rattle.std.proofs.Common.{subst}
use Rattle.brl_answers.specs.Delivery.{world}
use Rattle.brl_clashes.specs.declared.list_form.ListForm.{ListForm}
use Rattle.brl_tool.specs.Diagnosing.{Diagnoses}
use Rattle.brl_tool.proofs.program.answer.Goals as goal

pub returns-in-Check-clause-answers : goal.returns-in-Check-clause-answers
returns-in-Check-clause-answers g c = rw c.in-Check.is (record { checks = c.check_by_words.ensures.checks; accepts = c.check_by_words.ensures.accepts })

-- the form is that of the words
pub returns-in-Clashes-clause-answers : goal.returns-in-Clashes-clause-answers
returns-in-Clashes-clause-answers g c =
    let asked = c.in-Clashes in
    let before = world (g.F.Source.gives c.args.files.now) (g.O.Output.failures c.args.out.now) (g.O.Output.contents c.args.out.now) in
    let after = world (g.F.Source.gives c.list_clashes_by_words.new.files) (g.O.Output.failures c.list_clashes_by_words.new.out) (g.O.Output.contents c.list_clashes_by_words.new.out) in
    rw asked.is
    (subst (λ (form : ListForm). Diagnoses asked.alphabet g.F.Files.same_file asked.table.now asked.limit form asked.pairs before after c.list_clashes_by_words.result) c.list_form.ensures
    c.list_clashes_by_words.ensures.diagnoses)
