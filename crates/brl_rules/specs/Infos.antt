-- The infos of characters, looked up in a table.
use Rattle.std.specs.Prelude.{ℕ, ◌≡◌, List, [], ◌∷◌, Option, Some, None, map}
use Rattle.std.specs.Borrow.{Bor}
use Rattle.brl_rules.specs.declared.rule.Info.{Info}
use Rattle.brl_rules.specs.TableView.{TableView, info_of}

-- the table defines all these characters, and these are their infos, in order
abbrev pub AreInfosOf : TableView → List ℕ → List (Bor Info) → Type 0
AreInfosOf t chars infos = map (λ info. Some info.now) infos ≡ map (info_of t) chars

-- the info of the first character of a rest: none at the end of the text, and none where the
-- character is undefined
abbrev pub first_info : TableView → List ℕ → Option Info
first_info t [] = None
first_info t (c ∷ rest) = info_of t c
