use Rattle.std.proofs.Common.{◌∙◌, rules, string_bytes, sym, tests}
use Rattle.std.proofs.lemmas.Iterator.{YieldsList-from_slice}
use Rattle.std.proofs.lemmas.Iterator.Search.{any_from_yields_List}
use Rattle.brl_acting.proofs.Mapped.{list_any-map}
use Rattle.brl_cut.specs.Edits.{is_of}
use Rattle.brl_cut.specs.Files.{edit_view}
use Rattle.brl_cut.proofs.rewriting.is_rewritten.Goals as goal

pub returns : goal.returns
returns c =
    let place = c.args.place.now in
    any_from_yields_List (λ edit. is_of (string_bytes place.file) place.line (edit_view edit)) _ _ _ c.any.ensures.ran
    (YieldsList-from_slice _ c.iter.ensures.rest) (λ x b q k. search (rules, tests))
    ∙ sym (list_any-map (is_of (string_bytes place.file) place.line) edit_view c.args.edits.now)
