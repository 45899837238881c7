use Rattle.std.proofs.Common.{◌∙◌, ap, rules, string_bytes, sym, tests}
use Rattle.std.proofs.lemmas.Iterator.{YieldsList-from_slice}
use Rattle.std.proofs.lemmas.Iterator.Search.{any_from_yields_List}
use Rattle.std.specs.List.{list_any}
use Rattle.std.specs.Str.{bytes_eq}
use Rattle.brl_acting.specs.WholeTable.{file_view}
use Rattle.brl_acting.proofs.Mapped.{list_any-map}
use Rattle.brl_acting.proofs.whole_table.is_in_files.Goals as goal

pub returns : goal.returns
returns c =
    let path = string_bytes c.args.faulty.now.fault.file in
    any_from_yields_List (λ file. bytes_eq (string_bytes file.path) path) _ _ _ c.any.ensures.ran (YieldsList-from_slice _ c.iter.ensures.rest) (λ x b q k. search (rules, tests))
    ∙ ap (list_any (λ file. bytes_eq (string_bytes file.path) path)) c.deref.ensures.value
    ∙ sym (list_any-map (λ file. bytes_eq file.0 path) file_view c.args.gathered.now.files.items)
