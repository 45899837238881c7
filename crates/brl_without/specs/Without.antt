-- A machine without some characters: what it does for the texts that don't use them. The project's
-- own choice.
use Rattle.std.specs.Prelude.{◌≡◌, ℕ, ◌&&◌, IsTrue, List}
use Rattle.std.specs.List.{filter}
use Rattle.brl_pairs.specs.Runs.{Behaviour}
use Rattle.brl_pairs.specs.declared.step.Step.{Step}
use Rattle.brl_without.specs.LeftOut.{uses_none}

-- the steps that read none of the characters, in their order
abbrev pub steps_without : {S : Type 0} → List ℕ → List (Step S) → List (Step S)
steps_without left_out listed = filter (λ x. uses_none left_out x.reads) listed

-- The machine without some characters. Its steps are those that read none of them, in their order;
-- its texts are those that use none of them, with the same translation.
abbrev pub without : {S : Type 0} → List ℕ → Behaviour S → Behaviour S
without left_out m = record {
  start = m.start;
  steps = λ s. steps_without left_out (m.steps s);
  ends = m.ends;
  is_text = λ text. m.is_text text && uses_none left_out text;
  translation = m.translation;
}

-- what a contract sees of such a machine: the machine, and the characters that are left out
pub record WithoutView (M : Type 0) : Type 0 where
  pub machine : M
  pub left_out : List ℕ

-- two texts of the machine that use none of the characters, and that are translated to the same
-- cells, are equal
abbrev pub IsUnambiguousFor : {S : Type 0} → List ℕ → Behaviour S → Type 0
IsUnambiguousFor left_out m =
    (left right : List ℕ) → IsTrue (m.is_text left) → IsTrue (m.is_text right) → IsTrue (uses_none left_out left) → IsTrue (uses_none left_out right)
    → m.translation left ≡ m.translation right → left ≡ right
