use Rattle.std.proofs.Common.{◌∙◌, ap}
use Rattle.brl_table.specs.Building.{none_listed}
use Rattle.brl_table.specs.Reading.{defined_entries, definitions}
use Rattle.brl_table.proofs.faulty.good_characters.Goals as goal

pub returns : goal.returns
returns c =
    ap (λ m. m.entries) c.into_characters.ensures ∙ c.in_ok-find_faulty.ensures.represents.defined.entries_are ∙ ap (λ items. defined_entries (definitions items) none_listed) c.in_ok-find_faulty.ensures.good
