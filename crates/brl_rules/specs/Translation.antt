-- Forward translation, by position in a whole text, and clashes. The manual, section "Translation
-- Opcodes": a text is processed strictly from left to right, with the most eligible entry for each
-- position. A clash is this project's own notion.
use Rattle.std.specs.Prelude.{ℕ, zero, suc, ◌+◌, nat_lt, ◌≡◌, ◌≢◌, IsTrue, List, [], ◌++◌, length, drop, if◌then◌else◌}
use Rattle.brl_rules.specs.TableView.{TableView}
use Rattle.brl_rules.specs.Text.{classes_before, context_at, is_text}
use Rattle.brl_rules.specs.Indicators.{indicators}
use Rattle.brl_rules.specs.Choice.{Choice, chosen}

-- the indicators at position i
abbrev pub indicators_at : TableView → List ℕ → ℕ → List ℕ
indicators_at t text i = indicators t (context_at t text i) (drop i text)

-- the chosen rule at position i
abbrev pub chosen_at : TableView → List ℕ → ℕ → Choice
chosen_at t text i = chosen t (classes_before t text i) (drop i text)

-- the translation from position i on, in at most `steps` steps: the indicators, the chosen rule's
-- cells, and the translation from after the rule's last character on
abbrev pub translation_from : TableView → List ℕ → ℕ → ℕ → List ℕ
translation_from t text zero i = []
translation_from t text (suc steps) i =
    if nat_lt i (length text)
    then indicators_at t text i ++ (chosen_at t text i).cells ++ translation_from t text steps (i + (chosen_at t text i).taken)
    else []

-- the translation of a text; each step takes at least one character, so its length is enough steps
unfoldable pub translation : TableView → List ℕ → List ℕ
translation t text = translation_from t text (length text) 0

-- a clash: two different texts that are translated to the same cells
pub record IsClash (t : TableView) (left right cells : List ℕ) : Type 0 where
  pub left_text : IsTrue (is_text t left)
  pub right_text : IsTrue (is_text t right)
  pub differ : left ≢ right
  pub left_cells : translation t left ≡ cells
  pub right_cells : translation t right ≡ cells

-- any two texts of the table, of any length, that are translated to the same cells are equal
abbrev pub IsUnambiguous : TableView → Type 0
IsUnambiguous t =
    (left right : List ℕ) → IsTrue (is_text t left) → IsTrue (is_text t right) → translation t left ≡ translation t right → left ≡ right
