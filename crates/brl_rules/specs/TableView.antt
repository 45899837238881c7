-- A table, as all definitions of translation see it.
use Rattle.std.specs.Prelude.{ℕ, List, Option, nat_eq}
use Rattle.std.specs.Map.{lookup}
use Rattle.brl_rules.specs.declared.rule.Info.{Info}
use Rattle.brl_rules.specs.declared.rule.Notice.{Notice}
use Rattle.brl_rules.specs.declared.rule.Rule.{Rule}
use Rattle.brl_rules.specs.declared.signs.Sign.{Sign}
use Rattle.brl_rules.specs.Signs.{cells_at}

-- The characters in the order of their first definitions, with their infos; the used rules in rank;
-- the cells of the indicators by their numbers, none where one isn't defined; the names of the
-- files, as bytes; and the notices.
pub record TableView : Type 0 where
  pub characters : List (ℕ × Info)
  pub rules : List Rule
  pub signs : List (List ℕ)
  pub files : List (List ℕ)
  pub notices : List Notice

-- the info of a character, if the table defines it
abbrev pub info_of : TableView → ℕ → Option Info
info_of t c = lookup (nat_eq c) t.characters

-- the cells of an indicator
abbrev pub indicator_cells : TableView → Sign → List ℕ
indicator_cells t sign = cells_at t.signs sign
