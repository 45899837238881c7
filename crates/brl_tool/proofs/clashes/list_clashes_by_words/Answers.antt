use Rattle.std.proofs.Common.{inl, refl}
use Rattle.brl_answers.specs.Delivery.{world}
use Rattle.brl_answers.specs.declared.answer.Answer.{Answer}
use Rattle.brl_tool.proofs.InputLemmas.{counts_list, counts_since}
use Rattle.brl_tool.specs.declared.clashes.ListInput.{ListInput}
use Rattle.brl_tool.proofs.clashes.list_clashes_by_words.Goals as goal

pub returns-in_err-input-clause-count : goal.returns-in_err-input-clause-count
returns-in_err-input-clause-count g c =
    counts_since ListInput Answer _ _ _ c.from_residual.result c.in_err-input.field-0.0 c.from_residual.ensures.1 refl c.in_err-input.ensures.count

pub returns-clause-diagnoses : goal.returns-clause-diagnoses
returns-clause-diagnoses g c = rw c.in_ok-input.ensures.same (inl (c.in_ok-input.input, c.in_ok-input.ensures.reads, c.list_clashes.ensures (g.F.Source.gives c.args.files.now)))

pub returns-clause-count : goal.returns-clause-count
returns-clause-count g c =
    let gives = g.F.Source.gives c.args.files.now in
    let before = world gives (g.O.Output.failures c.args.out.now) (g.O.Output.contents c.args.out.now) in
    let after = world gives (g.O.Output.failures c.list_clashes.new.out) (g.O.Output.contents c.list_clashes.new.out) in
    counts_list c.args.asked.limit c.args.asked.form c.args.asked.pairs before after c.in_ok-input.input c.list_clashes.result (c.list_clashes.ensures gives) _ _ c.in_ok-input.ensures.count
