-- Dues: what a state of the dues machine still requires of the rest of a text. The notion is this
-- project's own choice.
use Rattle.std.specs.Prelude.{ℕ, Bool, true, not, ◌&&◌, nat_eq, List, [], ◌∷◌, length}
use Rattle.std.specs.List.{list_all, starts_with}
use Rattle.brl_rules.specs.declared.place.Cond.{Cond}
use Rattle.brl_rules.specs.Places.{holds, space}
use Rattle.brl_rules.specs.TableView.{TableView}
use Rattle.brl_rules.specs.Text.{classes_at}
use Rattle.brl_states.specs.declared.due.Due.{Due}
use Rattle.brl_states.specs.declared.due.Due.TheVariants.{Need, Bar}

-- a rest begins with these characters, and the classes after them meet the condition; the end of
-- the rest counts as class space
abbrev pub goes_on : TableView → List ℕ → List ℕ → Cond → Bool
goes_on t rest chars cond = starts_with nat_eq rest chars && holds cond (classes_at t rest (length chars))

-- a rest meets a due; a bar without characters bars nothing
abbrev pub due_met : TableView → List ℕ → Due → Bool
due_met t rest (Need cond) = holds cond (classes_at t rest 0)
due_met t rest (Bar [] cond) = true
due_met t rest (Bar (c ∷ chars) cond) = not (goes_on t rest (c ∷ chars) cond)

-- a rest meets all dues
abbrev pub dues_met : TableView → List ℕ → List Due → Bool
dues_met t rest dues = list_all (due_met t rest) dues

-- the end of the text meets a due: class space meets the condition of a need, and no bar applies
abbrev pub met_by_space : Due → Bool
met_by_space (Need cond) = holds cond space
met_by_space (Bar chars cond) = true
