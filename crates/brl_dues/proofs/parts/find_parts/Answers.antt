use Rattle.std.proofs.Common.{◌∙◌, ◌∷◌, [], ◌++◌, ◌≤◌, ap, ap₂, cond, filter, map, subst, sym}
use Rattle.brl_states.specs.DuesContext.{context_of}
use Rattle.brl_states.specs.Order.{AreDues}
use Rattle.brl_dues.specs.Capitals.{letters}
use Rattle.brl_dues.specs.Letters.{bars_from, may_come}
use Rattle.brl_dues.specs.Parts.{asked_context, part_in, part_with}
use Rattle.brl_dues.proofs.Bars.{passing-dues}
use Rattle.brl_dues.proofs.Finding.{letters-all, passing-next}
use Rattle.brl_dues.proofs.parts.find_parts.Goals as goal

pub push_part-requires : goal.push_part-requires
push_part-requires c =
    let d = c.char_at-character.result in
    subst AreDues (sym (c.bars_at-bars.ensures ∙ ap (filter (bars_from d)) c.as_slice-dues.ensures.dues)) (passing-dues (bars_from d) c.args.state.now.dues c.as_slice-dues.ensures.kept)

pub loop-number-preserved : goal.loop-number-preserved
loop-number-preserved c =
    let t = c.args.table.now in
    let s = c.args.state.now in
    let d = c.char_at-character.result in
    let parts = c.loop-number.parts.items in
    passing-next (part_in (asked_context t (context_of s)) s.dues) (may_come t s.dues) (letters t) c.loop-number.number d parts _ c.char_at-character.ensures c.loop-number.invariant
    (c.in_ok-push_part.ensures
    ∙ ap (λ b. parts ++ cond b (part_with c.asked_of-here.result c.bars_at-bars.result.now d ∷ []) []) (c.needs_of-needs.ensures t d)
    ∙ ap₂ (λ here bars. parts ++ cond (may_come t c.as_slice-dues.result.now d) (part_with here bars d ∷ []) []) (c.asked_of-here.ensures ∙ ap (asked_context t) c.context.ensures) c.bars_at-bars.ensures
    ∙ ap (λ dues. parts ++ cond (may_come t dues d) (part_in (asked_context t (context_of s)) dues d ∷ []) []) c.as_slice-dues.ensures.dues)

pub returns : goal.returns
returns c =
    let t = c.args.table.now in
    let s = c.args.state.now in
    c.loop-number.invariant
    ∙ ap (λ l. map (part_in (asked_context t (context_of s)) s.dues) (filter (may_come t s.dues) l)) (letters-all t c.loop-number.number (subst (λ n. n ≤ c.loop-number.number) c.char_count-number-end.ensures.count c.loop-number-test.false))
