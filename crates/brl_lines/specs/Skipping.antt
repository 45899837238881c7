-- The lines of a table without the hyphenation dictionaries that it includes. The project's own
-- choice.
use Rattle.std.specs.Prelude.{ℕ, ◌≡◌, List, map, Option, Result, Ok, Err}
use Rattle.brl_failure.specs.Failure.{◌>>=◌}
use Rattle.brl_lines.specs.Answer.{FileAnswer, FileAnswers}
use Rattle.brl_lines.specs.Gathering.{LeftView}
use Rattle.brl_lines.specs.Lines.{Answers, Refusal, answer_at, walk_over}
use Rattle.brl_lines.specs.Outcome.{AreGiven, IsReadFailure}
use Rattle.brl_lines.specs.Tokens.{LineView}
use Rattle.brl_lines.specs.Views.{load_fault_view}
use Rattle.brl_lines.specs.declared.fault.LoadFault.{LoadFault}
use Rattle.brl_lines.specs.declared.way.Policy.TheVariants.{SkipDictionaries}

-- the lines over what is known of each path, without those of dictionaries, whose include lines are
-- beside them
abbrev pub lines_without : List (List ℕ) → (List ℕ → Option FileAnswer) → List ℕ → Result (List LineView × List LeftView) Refusal
lines_without folders answer root = do
  walk ← walk_over SkipDictionaries folders answer root
  Ok (walk.lines, walk.way.left_out)

-- these are the lines of the table whose root has a path, and the include lines of dictionaries
-- that are skipped, by answers of the source for just these paths
abbrev pub AreLinesWithout : FileAnswers → List ℕ → List LeftView → List (List ℕ) → List LineView → Type 0
AreLinesWithout gives root skipped paths lines =
    (answers : Answers) × AreGiven gives answers × (map (λ entry. entry.0) answers ≡ paths) × (lines_without gives.folders (answer_at answers) root ≡ Ok (lines, skipped))

-- the table has no such lines for answers of the source, and this is why
abbrev pub IsUnloaded : FileAnswers → List ℕ → LoadFault → Type 0
IsUnloaded gives root fault =
    (answers : Answers) × AreGiven gives answers × (lines_without gives.folders (answer_at answers) root ≡ Err (load_fault_view fault))
    × IsReadFailure gives (load_fault_view fault)
