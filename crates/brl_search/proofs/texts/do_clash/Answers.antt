use Rattle.std.proofs.Common.{List, ℕ, subst, sym}
use Rattle.std.specs.Prelude.{IsTrue}
use Rattle.brl_rules.specs.Text.{is_text}
use Rattle.brl_search.proofs.Smallest.{faultless_texts}
use Rattle.brl_search.proofs.texts.do_clash.Goals as goal

pub faultless-requires : goal.faultless-requires
faultless-requires c =
    let t = c.args.table.now in
    faultless_texts t c.as_slice.result.now c.as_slice-2.result.now c.confirm.result
    (subst (λ (text : List ℕ). IsTrue (is_text t text)) (sym c.as_slice.ensures.value) c.requires.left)
    (subst (λ (text : List ℕ). IsTrue (is_text t text)) (sym c.as_slice-2.ensures.value) c.requires.right) c.confirm.ensures.fault
