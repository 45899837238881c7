use Rattle.std.proofs.Common.{◌≡◌, Some, false, ap, sym, ◌∙◌}
use Rattle.std.specs.Option.{option_map_or}
use Rattle.brl_rules.specs.declared.rule.Info.{Info}
use Rattle.brl_rules.specs.TableView.{TableView, info_of}
use Rattle.brl_rules.specs.Text.{context_after, context_after_all, is_mode}
use Rattle.brl_dues.proofs.Contexts.{context-last}
use Rattle.brl_dues.proofs.cased.CasedTable.context_behind.Goals as goal

pub returns-in-Some-info : goal.returns-in-Some-info
returns-in-Some-info c =
    let t = c.args.self.now in
    let last = c.in-Some.last.now in
    let info : info_of t last ≡ Some c.in-Some-info.info.now = ap (λ (u : TableView). info_of u last) (sym c.self.view_is) ∙ sym c.in-Some-info.ensures.value in
    let none : is_mode t last ≡ false = ap (λ o. option_map_or (λ (i : Info). i.mode) o false) info ∙ c.if-not-info.true in
    c.context_after_info.ensures last (sym c.in-Some-info.ensures.value)
    ∙ ap (λ (u : TableView). context_after u c.context_before-before.result last) c.self.view_is
    ∙ c.context_before-before.ensures last none
    ∙ sym (ap (context_after_all t c.args.here) c.in-Some.ensures.cases.0 ∙ context-last t c.args.here c.in-Some.others.now last)
