-- Internal. Where the bars of a state stand that begin with a character.
use Rattle.std.specs.Prelude.{ℕ, ◌+◌, Bool, List, [], ◌∷◌, map, if◌then◌else◌}
use Rattle.brl_rules.specs.TableView.{TableView}
use Rattle.brl_states.specs.declared.due.Due.{Due}
use Rattle.brl_dues.specs.Capitals.{letters}
use Rattle.brl_dues.specs.Letters.{bars_from}

-- the place of the first due that passes a test, and the number of dues where there is none
abbrev pub first_place : (Due → Bool) → List Due → ℕ
first_place test [] = 0
first_place test (due ∷ dues) = if test due then 0 else first_place test dues + 1

-- of each character of a table, the place of the first bar that begins with it
abbrev pub starts : TableView → List Due → List ℕ
starts t dues = map (λ c. first_place (bars_from c) dues) (letters t)
