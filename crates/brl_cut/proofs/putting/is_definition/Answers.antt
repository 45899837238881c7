use Rattle.std.proofs.Common.{◌≡◌, ◌∙◌, ◌&&◌, ◌==◌, ap, length, map}
use Rattle.brl_lines.specs.Views.{line_view}
use Rattle.brl_table.specs.Survey.{survey_of}
use Rattle.brl_cut.proofs.RewriteLemmas.{definition-found}
use Rattle.brl_cut.proofs.putting.is_definition.Goals as goal
use Rattle.brl_cut.proofs.putting.is_definition.Goals.{then-found, else-found}

pub returns : goal.returns
returns c =
    let found = c.in_ok-found.found in
    let told = c.in_ok-found.ensures ∙ ap (λ ls. survey_of (map line_view ls)) c.from_ref.ensures.value in
    let is : c.if-found.result ≡ (found.has_characters && (length found.faulty.items == 0)) = elim c.if-found.branch [
      | then-found w ↦ rw w.if-found.true (w.result-is ∙ w.is_empty.ensures ∙ ap (λ n. n == 0) found.faulty.ok.0)
      | else-found w ↦ rw w.if-found.false (w.result-is ∙ w.if-found.false)
    ] in
    is ∙ definition-found found (line_view c.args.line.now) told
