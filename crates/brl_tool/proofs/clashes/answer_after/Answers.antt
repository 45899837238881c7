use Rattle.std.proofs.Common.{◌∙◌, List, ap, if◌then◌else◌, map, subst, ℕ}
use Rattle.brl_clashes.specs.ClashesText.{last_lines}
use Rattle.brl_lines.specs.Views.{line_view}
use Rattle.brl_tool.specs.Baselines.{AreFilesWith, is_written_by, text_of_listed, written_path}
use Rattle.brl_tool.specs.Diagnosing.{status_of_sections}
use Rattle.brl_without.specs.Alphabet.{alphabet_view}
use Rattle.brl_tool.proofs.clashes.answer_after.Goals as goal

pub returns : goal.returns
returns g c =
    let exempt = c.in_ok-exempt.exempt in
    let pairs = c.args.pairs in
    let tally = c.args.tally.now in
    let others = text_of_listed c.args.request.table.now (map line_view c.args.request.lines.now) tally.left in
    record {
      taken = exempt.taken;
      taken_is = c.in_ok-exempt.ensures.taken;
      says = c.in_ok-text.ensures ∙ ap (last_lines c.args.request.form (alphabet_view c.args.input.now.alphabet)) c.in_ok-verdict.ensures;
      status = c.status_of.ensures ∙ ap (status_of_sections exempt.taken) c.outcome.ensures;
      files = subst (λ (bytes : List ℕ). AreFilesWith (written_path pairs) (is_written_by pairs.prune exempt.taken tally.whole) bytes c.in_ok-files.files) (ap (λ (kept : List ℕ). if pairs.prune then kept else others) c.in_ok-exempt.ensures.kept) c.in_ok-files.ensures;
    }
