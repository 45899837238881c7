use Rattle.std.proofs.Common.{◌∙◌, ap, sym, Bor, Some}
use Rattle.brl_rules.specs.declared.rule.Info.{Info}
use Rattle.brl_rules.proofs.InfoContexts.{context-more}
use Rattle.brl_rules.proofs.table.Table.context_after_infos.Goals as goal

pub loop-info-preserved : goal.loop-info-preserved
loop-info-preserved c = λ chars are.
    context-more c.args.self.now c.info-item.result c.loop-info.context c.context_after_info-context.result chars c.args.infos.now c.loop-info.info-index are c.loop-info-test.true
    (λ x known. c.context_after_info-context.ensures x (known ∙ ap (λ (info : Bor Info). Some info.now) (sym c.info-item.is)))
    ∙ c.loop-info.invariant chars are
