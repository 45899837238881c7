use Rattle.std.proofs.Common.{◌∙◌, rules, string_bytes, sym, tests}
use Rattle.std.proofs.lemmas.Iterator.{YieldsList-from_slice}
use Rattle.std.proofs.lemmas.Iterator.Search.{any_from_yields_List}
use Rattle.std.specs.Str.{bytes_eq}
use Rattle.brl_acting.proofs.Mapped.{list_any-map}
use Rattle.brl_cut.specs.Letsigns.{made_name}
use Rattle.brl_cut.proofs.rewriting.has_made_name.Goals as goal

pub returns : goal.returns
returns c =
    any_from_yields_List (λ name. bytes_eq made_name (string_bytes name)) _ _ _ c.any.ensures.ran (YieldsList-from_slice _ c.iter.ensures.rest) (λ x b q k. search (rules, tests))
    ∙ sym (list_any-map (bytes_eq made_name) string_bytes c.args.names.now)
