use Rattle.std.proofs.Common.{◌≡◌, ◌∙◌, IfOk, List, subst, sym, ℕ}
use Rattle.brl_cut.proofs.Unedited.{unedited}
use Rattle.brl_cut.proofs.cutting.mark_bytes.Goals as goal

pub returns-else-has_mark : goal.returns-else-has_mark
returns-else-has_mark c =
    subst (λ (bytes : List ℕ). IfOk c.from_slice.result (λ new. new.items ≡ bytes))
    (sym (unedited c.args.marks.now c.args.before.now (sym c.has_mark.ensures ∙ c.if-has_mark.false) c.args.bytes.now)) c.from_slice.ensures.items
