use Rattle.std.proofs.Common.{arith, ◌≡◌, ℕ, ap, sym, ◌∙◌, map, ◌∷◌, List}
use Rattle.std.proofs.lemmas.List.{map-append}
use Rattle.brl_lines.specs.Rows.{piece}
use Rattle.brl_lines.specs.Tokens.{TokenView, tokens, token_of}
use Rattle.brl_lines.proofs.TokenLemmas.{token_of_piece, one_more}
use Rattle.brl_lines.proofs.cut.tokens_between.Goals as goal

pub loop-at-preserved : goal.loop-at-preserved
loop-at-preserved c =
    let text = c.args.text.now in
    let here : map token_of (tokens (piece c.args.text.now c.loop-at.at c.args.to))
    ≡ record { text = c.range.result.now; start = c.loop-at.at } ∷ map token_of (tokens (piece c.args.text.now c.skip_gaps-at-in-loop-at.result c.args.to)) =
    ap (map token_of) c.token_end-end.ensures.cuts
    ∙ ap (λ (t : TokenView). t ∷ map token_of (tokens (piece c.args.text.now c.token_end-end.result c.args.to)))
    (token_of_piece text c.loop-at.at c.token_end-end.result c.token_end-end.ensures.from (omega arith)
    ∙ ap (λ (xs : List ℕ). record { text = xs; start = c.loop-at.at }) (sym c.range.ensures.value))
    ∙ ap (λ ts. record { text = c.range.result.now; start = c.loop-at.at } ∷ map token_of ts) c.skip_gaps-at-in-loop-at.ensures.same in
    record {
      to = c.skip_gaps-at-in-loop-at.ensures.to;
      boundary = c.skip_gaps-at-in-loop-at.ensures.boundary;
      mark = c.skip_gaps-at-in-loop-at.ensures.mark;
      so_far = rw (c.in_ok-push.ensures.items, map-append) (one_more _ _ _ _ _ c.loop-at.invariant.so_far here);
    }
