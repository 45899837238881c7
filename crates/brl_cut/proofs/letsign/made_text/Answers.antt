use Rattle.std.proofs.Common.{◌∙◌, ◌++◌, ◌<◌, [], ℕ, ap, map, slice_get, subst}
use Rattle.std.specs.Option.{option_map_or}
use Rattle.brl_cut.specs.LetsignViews.{alone_view, known_view}
use Rattle.brl_cut.specs.Letsigns.{made_line_if}
use Rattle.brl_cut.proofs.RewriteLemmas.{entries-more}
use Rattle.brl_cut.proofs.letsign.made_text.Goals as goal

pub loop-index-preserved : goal.loop-index-preserved
loop-index-preserved c =
    let line = made_line_if (known_view c.args.known) (map alone_view c.in_ok-alone.alone.items) in
    let alone = ap (map alone_view) c.as_slice.ensures.value in
    c.in_ok-push_made_at.ensures
    ∙ (λ j. c.loop-index.invariant j ++ option_map_or (made_line_if (known_view c.args.known) (alone j)) (slice_get (known_view c.args.known).characters c.loop-index.index) [])
    ∙ entries-more line (known_view c.args.known).characters c.loop-index.index (subst (λ (n : ℕ). c.loop-index.index < n) c.len-index-end.ensures.len c.loop-index-test.true)
