use Rattle.std.proofs.Common.{◌∙◌, ap, rules, sym, tests, true}
use Rattle.std.specs.List.{list_all}
use Rattle.std.specs.Prelude.{if◌then◌else◌}
use Rattle.std.proofs.lemmas.Iterator.{YieldsList-from_slice}
use Rattle.std.proofs.lemmas.Iterator.Search.{all_from_yields_List}
use Rattle.std.proofs.lemmas.Str.{is_utf8-from_IsUtf8}
use Rattle.brl_cells.specs.Dots.{reading}
use Rattle.brl_acting.specs.Readings.{known_view}
use Rattle.brl_acting.specs.Tests.{are_cells_met}
use Rattle.brl_acting.proofs.Bytes.{no_text}
use Rattle.brl_acting.proofs.tests_met.are_dots_met.Goals as goal

pub returns-in_default : goal.returns-in_default
returns-in_default c =
    let text = c.args.text.now in
    sym (ap (λ b. if b then are_cells_met (known_view c.args.known.now) (reading 1024 text) else true) (no_text text c.in_default.ensures.cases.0))

pub returns-in-Ok-read_dots : goal.returns-in-Ok-read_dots
returns-in-Ok-read_dots c =
    let known = known_view c.args.known.now in
    let text = c.args.text.now in
    all_from_yields_List known.read.cells _ _ _ c.all.ensures.ran (YieldsList-from_slice _ c.iter.ensures.rest) (λ x b q k. search (rules, tests))
    ∙ ap (list_all known.read.cells) c.as_slice.ensures
    ∙ ap (are_cells_met known) (sym c.in-Ok-read_dots.ensures.cells ∙ ap (reading 1024) c.in-Ok.ensures.cases.0)
    ∙ sym (ap (λ b. if b then are_cells_met known (reading 1024 text) else true) (is_utf8-from_IsUtf8 text c.in-Ok.ensures.cases.1))
