-- A table without some of its characters. The project's own choice.
use Rattle.std.specs.Prelude.{◌≡◌, ℕ, IsTrue, List, [], ◌∷◌, Option, None, Some, find, not, string_bytes}
use Rattle.std.specs.Str.{encode_utf8_all}
use Rattle.brl_lines.specs.Visible.{visible_text}
use Rattle.brl_rules.specs.TableView.{TableView}
use Rattle.brl_rules.specs.Text.{is_defined, is_text}
use Rattle.brl_rules.specs.Translation.{IsClash, translation}
use Rattle.brl_without.specs.LeftOut.{uses_none}
use Rattle.brl_without.specs.declared.undefined.UndefinedLeftOut.{UndefinedLeftOut}

-- any two texts over the table's other characters, of any length, that are translated to the same
-- cells are equal
abbrev pub IsUnambiguousWithout : List ℕ → TableView → Type 0
IsUnambiguousWithout left_out t =
    (left right : List ℕ) → IsTrue (is_text t left) → IsTrue (is_text t right) → IsTrue (uses_none left_out left) → IsTrue (uses_none left_out right)
    → translation t left ≡ translation t right → left ≡ right

-- a clash of two texts over the table's other characters
pub record IsClashWithout (left_out : List ℕ) (t : TableView) (left right cells : List ℕ) : Type 0 where
  pub clash : IsClash t left right cells
  pub left_without : IsTrue (uses_none left_out left)
  pub right_without : IsTrue (uses_none left_out right)

-- the first of the characters that the table doesn't define, if there is one
abbrev pub first_undefined : TableView → List ℕ → Option ℕ
first_undefined t left_out = find (λ c. not (is_defined t c)) left_out

-- the table defines all of the characters
abbrev pub AreDefined : TableView → List ℕ → Type 0
AreDefined t left_out = first_undefined t left_out ≡ None

-- the fault names the first of the characters that the table doesn't define, as it is spelled in an
-- operand
abbrev pub IsUndefined : TableView → List ℕ → UndefinedLeftOut → Type 0
IsUndefined t left_out fault =
    (c : ℕ) × (first_undefined t left_out ≡ Some c) × (string_bytes fault.0 ≡ encode_utf8_all (visible_text (c ∷ [])))
