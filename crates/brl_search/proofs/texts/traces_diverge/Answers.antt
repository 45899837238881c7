use Rattle.std.proofs.Common.{◌≡◌, ◌∙◌, ◌∷◌, [], Bool, ap, subst, sym}
use Rattle.std.specs.Prelude.{◌↔◌, IsTrue}
use Rattle.brl_forward.specs.Trace.{trace_of}
use Rattle.brl_search.specs.Smaller.{diverge_at}
use Rattle.brl_traces.specs.Traces.{TracesDivergeAt}
use Rattle.brl_search.proofs.Diverging.{traces-diverge}
use Rattle.brl_search.proofs.texts.traces_diverge.Goals as goal

pub returns : goal.returns
returns c =
    let t = c.args.table.now in
    let pair = c.args.pair in
    let left = c.args.texts.now.left.items in
    let right = c.args.texts.now.right.items in
    let first = c.as_slice-3.ensures.value ∙ c.in_ok-left.ensures ∙ ap (trace_of t) c.as_slice.ensures.value in
    let second = c.as_slice-4.ensures.value ∙ c.in_ok-right.ensures ∙ ap (trace_of t) c.as_slice-2.ensures.value in
    let test : c.diverge_at.result ≡ diverge_at t left right pair (trace_of t left) (trace_of t right) =
    c.diverge_at.ensures ∙ ap (λ steps. diverge_at t left right pair steps c.as_slice-4.result.now) first ∙ ap (diverge_at t left right pair (trace_of t left)) second in
    subst (λ (b : Bool). IsTrue b ↔ TracesDivergeAt t (pair ∷ []) left right) (sym test) (traces-diverge t pair left right)
