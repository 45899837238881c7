-- What every table keeps. The numbers are this project's own limits. With them a step of any
-- machine gives at most 512 cells of a rule and 16 of each of five indicators, fewer than the
-- 1,024 that a lead may have.
use Rattle.std.specs.Prelude.{ℕ, ◌≡◌, ◌≤◌, ◌<◌, All, List, length, nat_eq, Some, IsSome, slice_get}
use Rattle.std.specs.List.{IsDistinct}
use Rattle.std.specs.Map.{keys_of, lookup}
use Rattle.brl_rules.specs.declared.rule.Info.{Info}
use Rattle.brl_rules.specs.declared.rule.Rule.{Rule}
use Rattle.brl_rules.specs.declared.signs.Sign.{Sign}
use Rattle.brl_rules.specs.TableView.{TableView, indicator_cells}
use Rattle.brl_rules.specs.Rank.{IsInRank}

-- these entries define a character
abbrev pub IsAmong : List (ℕ × Info) → ℕ → Type 0
IsAmong characters c = IsSome (lookup (nat_eq c) characters)

-- an info is valid in a table with these characters and this number of files
pub record IsEntry (characters : List (ℕ × Info)) (files : ℕ) (info : Info) : Type 0 where
  pub some_cells : 1 ≤ length info.cells
  pub few_cells : length info.cells ≤ 16
  pub fold_defined : IsAmong characters info.fold
  pub file_named : info.file < files

-- a rule is valid in a table with these characters and this number of files
pub record IsRule (characters : List (ℕ × Info)) (files : ℕ) (rule : Rule) : Type 0 where
  pub some_characters : 1 ≤ length rule.chars
  pub few_characters : length rule.chars ≤ 32
  pub characters_defined : All (IsAmong characters) rule.chars
  pub some_cells : 1 ≤ length rule.cells
  pub few_cells : length rule.cells ≤ 512
  pub file_named : rule.file < files

-- no list is too long
pub record AreFew (t : TableView) : Type 0 where
  pub characters : length t.characters ≤ 1024
  pub rules : length t.rules ≤ 4096
  pub signs : (sign : Sign) → length (indicator_cells t sign) ≤ 16

-- the number of an entry is its place
abbrev pub AreNumbered : List (ℕ × Info) → Type 0
AreNumbered characters = (place : ℕ) (entry : ℕ × Info) → slice_get characters place ≡ Some entry → entry.1.number ≡ place

-- what the parts of a table keep, in any order of the rules
pub record AreParts (t : TableView) : Type 0 where
  pub few : AreFew t
  -- no character occurs twice
  pub distinct : IsDistinct nat_eq (keys_of t.characters)
  pub numbered : AreNumbered t.characters
  pub entries : All (λ entry. IsEntry t.characters (length t.files) entry.1) t.characters
  pub rules : All (IsRule t.characters (length t.files)) t.rules
  pub notices : All (λ notice. notice.file < length t.files) t.notices

-- what every table keeps
pub record IsTable (t : TableView) : Type 0 where
  pub parts : AreParts t
  pub in_rank : IsInRank t.rules
