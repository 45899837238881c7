use Rattle.std.proofs.Common.{◌≡◌, ◌∙◌, ◌∷◌, ◌++◌, [], map}
use Rattle.brl_lines.specs.Views.{line_view}
use Rattle.brl_cut.specs.LetsignViews.{known_view}
use Rattle.brl_cut.specs.Letsigns.{include_edit, made_file, sign_edits}
use Rattle.brl_cut.specs.RewritingViews.{contractions_of, known_from}
use Rattle.brl_cut.specs.Signs.{sign_view}
use Rattle.brl_cut.proofs.rewriting.sign_change.Goals as goal

pub returns : goal.returns
returns c =
    let characters = c.args.given.now.characters.entries in
    let signs = c.args.given.now.signs.items in
    let sign = sign_view c.args.sign.now in
    let lines = map line_view c.args.lines.now in
    let known : known_view (record { given = c.args.given; letters = record { ref_ptr = (0, 0); now = c.in_ok-letters.letters }; sign = c.as_slice.result }) ≡ known_from characters signs sign lines =
    λ j. record { characters = characters; letters = c.in_ok-letters.ensures j; contraction = signs; sign = c.as_slice.ensures j } in
    λ j. record {
      edits = (c.in_ok-all_edits.ensures ∙ (λ i. contractions_of characters signs lines ++ include_edit sign ∷ sign_edits (known i) lines)) j;
      made = (c.in_ok-made_files.ensures ∙ (λ i. made_file c.args.root.now (known i) lines ∷ [])) j;
    }
