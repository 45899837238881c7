use Rattle.std.proofs.Common.{◌≡◌, false, Option, Some, None, refl, sym, ◌∙◌}
use Rattle.std.specs.Prelude.{is_some}
use Rattle.std.proofs.lemmas.Result.{on_ok_weaker}
use Rattle.brl_closure.specs.declared.check.missing.MissingSplit.{MissingSplit}
use Rattle.brl_closure.proofs.PassedLaws.{passed_without}
use Rattle.brl_closure.proofs.check.pass.keep_passed.Goals as goal

is_none : (found : Option MissingSplit) → is_some found ≡ false → found ≡ None
is_none None none = refl
is_none (Some split) none = cc

pub returns : goal.returns
returns c =
    let a = c.args in
    let edges = a.edges in
    let nothing = c.is_nothing.ensures.0 c.if-not-is_nothing.false in
    on_ok_weaker c.keep.result
    (λ kept pairs without before. kept pairs edges.cells before (passed_without a.excused.now nothing.0 nothing.1 pairs edges.cells edges.edges edges.sorted c.law.ensures (without (is_none a.missing.split (sym c.is_some.ensures ∙ c.if-is_some.false)))))
    c.keep.ensures
