-- What commands answer. The project's own choice.
use Rattle.std.specs.Prelude.{ℕ, ◌≡◌, ◌⊎◌, Bool, if◌then◌else◌, List, [], ◌∷◌, ◌++◌, Option, None, Some, Result, Ok, Err, codes, flat_map, string_bytes}
use Rattle.std.specs.Fmt.{decimal}
use Rattle.std.specs.Str.{chars, encode_utf8_all}
use Rattle.brl_failure.specs.declared.failure.Failure.{Failure}
use Rattle.brl_failure.specs.declared.failure.Failure.TheVariants as failures
use Rattle.brl_lines.specs.Answer.{FileAnswers}
use Rattle.brl_lines.specs.Escapes.{characters_of}
use Rattle.brl_lines.specs.Visible.{visible_text}
use Rattle.brl_lines.specs.declared.fault.LoadFault.{LoadFault}
use Rattle.brl_lines.specs.declared.operand.CharsFault.{CharsFault}
use Rattle.brl_without.specs.Alphabet.{AlphabetView, Without, Only}
use Rattle.brl_without.specs.Spans.{spelled_spans}
use Rattle.brl_without.specs.declared.span.Span.{Span}
use Rattle.brl_table.specs.Faults.{IsFaultAt}
use Rattle.brl_table.specs.declared.no_table.NoTable.TheVariants as no_table
use Rattle.brl_answers.specs.declared.answer.Answer.{Answer}
use Rattle.brl_answers.specs.declared.new_files.NewFiles.TheVariants.{Nothing}
use Rattle.brl_answers.specs.declared.run_fault.RunFault.{RunFault}
use Rattle.brl_answers.specs.declared.run_fault.RunFault.TheVariants.{Load, Table, BadText, Memory}
use Rattle.brl_answers.specs.declared.status.Status.{Status}

-- an answer has this status and text, and no files
abbrev pub HasTextAndStatus : Status → List ℕ → Answer → Type 0
HasTextAndStatus status text answer = (answer.status ≡ status) × (string_bytes answer.text ≡ text) × (answer.files ≡ Nothing)

-- this was answered, unless memory ran out
abbrev pub UnlessMemory : (Answer → Type 0) → Result Answer RunFault → Type 0
UnlessMemory is (Ok answer) = is answer
UnlessMemory is (Err Memory) = Unit {0}
UnlessMemory is (Err fault) = ⊥

-- a line with numbers of states and of pairs after a word
abbrev pub counts_line : List ℕ → ℕ → ℕ → List ℕ
counts_line word states pairs = word ++ (codes ": " ++ (decimal states ++ (codes " states, " ++ (decimal pairs ++ codes " pairs\n"))))

-- ---- Steps

-- The answer of a step and of what comes after it: the step gives a value, by which the rest is
-- answered; or it ends the work by a fault.
abbrev pub Then : {T A : Type 0} → (T → Type 0) → (RunFault → Type 0) → (T → Result A RunFault → Type 0) → Result A RunFault → Type 0
Then {T} gives ends answers outcome =
    ((value : T) × gives value × answers value outcome) ⊎ ((fault : RunFault) × (outcome ≡ Err fault) × ends fault)

-- the answer of a step that gives no value: something holds, and the rest is answered; or the step
-- ends the work by a fault
abbrev pub Provided : {A : Type 0} → Type 0 → (RunFault → Type 0) → (Result A RunFault → Type 0) → Result A RunFault → Type 0
Provided holds ends answers outcome = (holds × answers outcome) ⊎ ((fault : RunFault) × (outcome ≡ Err fault) × ends fault)

-- the fault of a step, which becomes one of the program, ended the work; or memory ran out
abbrev pub EndsAs : {E : Type 0} → (E → RunFault) → (E → Type 0) → RunFault → Type 0
EndsAs run_fault is Memory = Unit {0}
EndsAs {E} run_fault is fault = (own : E) × is own × (fault ≡ run_fault own)

-- ---- The table of a file

-- there is no table at a path, and this is why; memory may run out at any file
abbrev pub HasNoTable : FileAnswers → List ℕ → RunFault → Type 0
HasNoTable gives path (Load fault) = IsFaultAt gives path (no_table.Load fault)
HasNoTable gives path (Table fault) = IsFaultAt gives path (no_table.Table fault)
HasNoTable gives path Memory = Unit {0}
HasNoTable gives path fault = ⊥

-- how the loading of files ended
abbrev pub load_outcome : {T : Type 0} → Result T RunFault → Result (Unit {0}) (Failure LoadFault)
load_outcome (Err (Load fault)) = Err (failures.Fault fault)
load_outcome (Err Memory) = Err failures.Memory
load_outcome outcome = Ok tt

-- ---- Texts

-- the text of a word: with escapes the characters that it spells as an operand of a table, else its
-- own
abbrev pub text_of : Bool → List ℕ → Result (List ℕ) CharsFault
text_of escapes word = if escapes then characters_of word else Ok (chars word)

-- the fault is that the word spells no text, and names it as it was written; or memory ran out
abbrev pub IsBadText : Bool → List ℕ → RunFault → Type 0
IsBadText escapes word (BadText named) = ((fault : CharsFault) × (text_of escapes word ≡ Err fault)) × (string_bytes named ≡ word)
IsBadText escapes word Memory = Unit {0}
IsBadText escapes word fault = ⊥

-- what is answered for the text of a word, or that it spells none
abbrev pub ByText : Bool → List ℕ → (List ℕ → Result Answer RunFault → Type 0) → Result Answer RunFault → Type 0
ByText escapes word answers outcome = Then (λ text. text_of escapes word ≡ Ok text) (IsBadText escapes word) answers outcome

-- ---- The characters of which texts are made

-- a character, spelled after a blank
abbrev pub spelled_after_blank : ℕ → List ℕ
spelled_after_blank c = codes " " ++ encode_utf8_all (visible_text (c ∷ []))

-- characters, each spelled after a blank
abbrev pub spelled_one_by_one : List ℕ → List ℕ
spelled_one_by_one characters = flat_map spelled_after_blank characters

-- a line of an answer, and where characters are left out another line, which spells them one by one
abbrev pub with_left_out_line : List ℕ → List ℕ → List ℕ
with_left_out_line [] line = line
with_left_out_line (c ∷ left_out) line = line ++ (codes "without:" ++ (spelled_one_by_one (c ∷ left_out) ++ codes "\n"))

-- a line of an answer, and another line with the spans of the characters that texts may have
abbrev pub with_spans_line : List Span → List ℕ → List ℕ
with_spans_line spans line = line ++ (codes "only: " ++ (spelled_spans spans ++ codes "\n"))

-- a line of an answer, and where texts aren't made of all characters of a table another line that
-- says of which
abbrev pub with_alphabet_line : AlphabetView → List ℕ → List ℕ
with_alphabet_line (Without given) line = with_left_out_line given line
with_alphabet_line (Only spans) line = with_spans_line spans line
