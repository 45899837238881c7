use Rattle.std.proofs.Common.{◌≡◌, ◌∙◌, ◌+◌, ◌++◌, List, String, ap, drop, length, string_bytes, subst₂, sym}
use Rattle.std.proofs.lemmas.List.{drop_all}
use Rattle.std.specs.Global.{Global}
use Rattle.brl_without.specs.Spans.{spelled_after, spelled_spans}
use Rattle.brl_without.specs.declared.span.Span.{Span}
use Rattle.brl_without.proofs.Spans.{last_spelled, one_more_follows, one_more_spelled}
use Rattle.brl_without.proofs.span.spell_spans.Goals.{then-continues_in, else-continues_in+in_ok-spell_span+in_ok-push_str}
use Rattle.brl_without.proofs.span.spell_spans.Goals as goal

pub loop-next-preserved : goal.loop-next-preserved
loop-next-preserved c =
    let spans = spelled_spans c.args.spans.now in
    let others = c.in-Some.others.now in
    let i = c.loop-next.next-index in
    let text = string_bytes c.loop-next.text in
    let so_far = c.loop-next.invariant in
    elim c.if-continues_in.branch [
      | then-continues_in w ↦
          subst₂ (λ (t : String Global) (s : Span). spans ≡ string_bytes t ++ spelled_after s (drop (i + 1) others)) (sym w.text-is) (sym w.open-is)
          (one_more_follows spans text c.loop-next.«open» others i _ c.loop-next-test.true so_far (sym c.continues_in.ensures ∙ w.if-continues_in.true))
      | else-continues_in+in_ok-spell_span+in_ok-push_str w ↦
          subst₂ (λ (t : String Global) (s : Span). spans ≡ string_bytes t ++ spelled_after s (drop (i + 1) others)) (sym w.text-is) (sym w.open-is)
          (one_more_spelled spans text c.loop-next.«open» others i _ c.loop-next-test.true so_far (sym c.continues_in.ensures ∙ w.if-continues_in.false) (string_bytes w.push_str.new.self)
          (w.in_ok-push_str.ensures.bytes ∙ ap (λ (bytes : List _). text ++ bytes) (w.as_str.ensures.value ∙ w.in_ok-spell_span.ensures)))
    ]

pub returns : goal.returns
returns c =
    let others = c.in-Some.others.now in
    let text = string_bytes c.loop-next.text in
    last_spelled (spelled_spans c.args.spans.now) text (string_bytes c.push_str-2.new.self) c.loop-next.«open» (drop c.loop-next.next-index others) (drop_all c.loop-next.next-index others c.loop-next-test.false)
    (c.in_ok-push_str-2.ensures.bytes ∙ ap (λ (bytes : List _). text ++ bytes) (c.as_str-2.ensures.value ∙ c.in_ok-spell_span-2.ensures)) c.loop-next.invariant
