use Rattle.std.proofs.Common.{arith, ◌≡◌, ◌∙◌, ap, sym, map, ◌∷◌, false}
use Rattle.std.proofs.lemmas.Grind.{common_steps}
use Rattle.brl_lines.specs.Tokens.{TokenView, is_comment, line_of, token_of}
use Rattle.brl_lines.specs.Views.{token_view}
use Rattle.brl_lines.proofs.LineLemmas.{line_of-plain}
use Rattle.brl_lines.proofs.TokenLemmas.{first_token}
use Rattle.brl_lines.proofs.cut.line_between.Goals as goal

pub returns : goal.returns
returns c =
    let first : TokenView = record { text = c.range.result.now; start = c.skip_gaps-start.result } in
    let plain : is_comment first ≡ false = grind (arith, common_steps) in
    sym (ap (λ ts. line_of c.args.file.now c.args.number ts)
    (ap (map token_of) c.skip_gaps-start.ensures.same
    ∙ first_token c.args.text.now c.range.result.now c.skip_gaps-start.result c.token_end-end.result c.args.to c.token_end-end.ensures.from (omega arith) c.range.ensures.value c.token_end-end.ensures.cuts
    ∙ ap (λ ts. first ∷ ts) (sym c.in_ok-operands.ensures))
    ∙ line_of-plain c.args.file.now c.args.number first (map token_view c.in_ok-operands.operands.items) plain)
