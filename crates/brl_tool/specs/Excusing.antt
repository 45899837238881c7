-- What a file excuses of a table: which pairs of rules are accepted, and which characters may be
-- exchanged. The project's own choice.
use Rattle.std.specs.Prelude.{ℕ, ◌≡◌, ◌≢◌, List, [], ◌++◌, Option, None, Some, Result, map}
use Rattle.brl_accepted.specs.Counting.{but_for_line, pair_count}
use Rattle.brl_accepted.specs.FaultText.{FaultView, fault_view}
use Rattle.brl_accepted.specs.Reading.{excused_by, sets_named, stale_lines}
use Rattle.brl_accepted.specs.declared.reading.Excusal.{Excusal}
use Rattle.brl_answers.specs.Answers.{Then, with_alphabet_line}
use Rattle.brl_answers.specs.declared.answer.Answer.{Answer}
use Rattle.brl_answers.specs.declared.run_fault.RunFault.{RunFault}
use Rattle.brl_answers.specs.declared.run_fault.RunFault.TheVariants.{Accept, Load, Memory}
use Rattle.brl_lines.specs.Answer.{FileAnswers, Holds, MayAnswer}
use Rattle.brl_lines.specs.Tokens.{LineView}
use Rattle.brl_pairs.specs.declared.excused.Excused.{Excused}
use Rattle.brl_rules.specs.TableView.{TableView}
use Rattle.brl_tool.specs.Baselines.{IsFaultOfText, names_of_table}
use Rattle.brl_tool.specs.Alphabets.{IfAllThere}
use Rattle.brl_without.specs.Alphabet.{AlphabetView}
use Rattle.brl_without.specs.Scope.{IsNothing}

-- the stale lines of a file at this path with this text, beside a table of these lines
abbrev pub stale_of : TableView → List LineView → List ℕ → List ℕ → List FaultView
stale_of t lines path text = stale_lines (names_of_table t lines) None path text

-- the file at a path excuses this of the table of these lines: it has no stale line, and its lines
-- name this number of sets of characters
pub record IsExcusedAt (gives : FileAnswers) (path : List ℕ) (t : TableView) (lines : List LineView) (excused : Excused) (sets : ℕ) : Type 0 where
  pub text : List ℕ
  pub there : MayAnswer gives path (Holds text)
  pub good : stale_of t lines path text ≡ []
  pub excuses : excused ≡ excused_by (names_of_table t lines) None text
  pub count : sets ≡ sets_named (names_of_table t lines) None text

-- what is excused of a table of these lines: nothing, unless a file says it
abbrev pub Excuses : FileAnswers → Option (List ℕ) → TableView → List LineView → Excusal → Type 0
Excuses gives None t lines excusal = IsNothing excusal.excused
Excuses gives (Some path) t lines excusal = IsExcusedAt gives path t lines excusal.excused excusal.sets

-- the fault has the stale lines of a file at this path with this text, and there are some; or
-- memory ran out
abbrev pub IsFaultOfLines : TableView → List LineView → List ℕ → List ℕ → RunFault → Type 0
IsFaultOfLines t lines path text (Accept stale) = (stale_of t lines path text ≢ []) × (map fault_view stale.0.items ≡ stale_of t lines path text)
IsFaultOfLines t lines path text Memory = Unit {0}
IsFaultOfLines t lines path text fault = ⊥

-- why the file at a path excuses nothing: it has no text, or it has stale lines; or memory ran out
abbrev pub IsFaultOfExcusal : FileAnswers → List ℕ → TableView → List LineView → RunFault → Type 0
IsFaultOfExcusal gives path t lines (Load fault) = IsFaultOfText gives path (Load fault)
IsFaultOfExcusal gives path t lines (Accept stale) =
    (text : List ℕ) × MayAnswer gives path (Holds text) × IsFaultOfLines t lines path text (Accept stale)
IsFaultOfExcusal gives path t lines Memory = Unit {0}
IsFaultOfExcusal gives path t lines fault = ⊥

-- it is the fault of the file that is to excuse something
abbrev pub IsFaultOfExcuses : FileAnswers → Option (List ℕ) → TableView → List LineView → RunFault → Type 0
IsFaultOfExcuses gives accept t lines fault = (path : List ℕ) × (accept ≡ Some path) × IsFaultOfExcusal gives path t lines fault

-- what is answered by what is excused of a table of these lines, once the table has the characters
-- of an alphabet, or why one of both isn't so
abbrev pub ByExcusal : AlphabetView → FileAnswers → Option (List ℕ) → TableView → List LineView → (Excusal → Result Answer RunFault → Type 0) → Result Answer RunFault → Type 0
ByExcusal alphabet gives accept t lines answers outcome =
    IfAllThere t alphabet (Then (Excuses gives accept t lines) (IsFaultOfExcuses gives accept t lines) answers) outcome

-- the line that says how much a file excuses
abbrev pub excused_text : Excusal → List ℕ
excused_text excusal = but_for_line (record { pairs = pair_count excusal.excused.accepted; sets = excusal.sets })

-- a line of an answer, that of what is excused where a file says it, and that of the characters of
-- which texts are made
abbrev pub lines_with : AlphabetView → Option (List ℕ) → Excusal → List ℕ → List ℕ
lines_with alphabet None excusal line = with_alphabet_line alphabet line
lines_with alphabet (Some path) excusal line = with_alphabet_line alphabet (line ++ excused_text excusal)
