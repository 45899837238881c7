use Rattle.std.proofs.Common.{ap, ◌∙◌}
use Rattle.brl_rules.specs.TableView.{TableView}
use Rattle.brl_rules.specs.Text.{context_after}
use Rattle.brl_dues.proofs.Contexts.{last-alone}
use Rattle.brl_dues.proofs.cased.CasedTable.context_before.Goals as goal

pub returns-in-Some : goal.returns-in-Some
returns-in-Some c = λ d h.
    let t = c.args.self.now in
    let last = c.in-Some.last.now in
    ap (λ x. context_after t x d) (c.context_after.ensures ∙ ap (λ (u : TableView). context_after u c.args.here last) c.self.view_is)
    ∙ last-alone t c.args.here c.args.chars.now c.in-Some.field-0-1.now last d c.in-Some.ensures.cases.0 h
