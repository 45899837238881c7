-- What the translation of a stream gives. The project's own choice.
use Rattle.std.specs.Fmt.{decimal, digits, format_spec, padded_integral}
use Rattle.std.specs.Prelude.{ℕ, ◌≡◌, ◌-◌, ◌^◌, ◌++◌, ◌∷◌, [], Bool, false, true, if◌then◌else◌, codes, flat_map, List, Option, Some, Result, Ok, Err, String, string_bytes}
use Rattle.std.specs.Global.{Global}
use Rattle.std.specs.Str.{encode_utf8_all}
use Rattle.brl_lines.specs.Visible.{visible_text}
use Rattle.brl_failure.specs.declared.failure.Failure.{Failure}
use Rattle.brl_failure.specs.declared.failure.Failure.TheVariants as failures
use Rattle.brl_lines.specs.Answer.{FileAnswers}
use Rattle.brl_table.specs.Files.{IsTableOf}
use Rattle.brl_stream.specs.Output.{HasWritten, LineResult, verdict, verdict_of_defined}
use Rattle.brl_stream.specs.InputLines.{lines_of}
use Rattle.brl_stream.specs.Lacking.{lacking_of}
use Rattle.brl_stream.specs.declared.lacking.Lacking.{Lacking}
use Rattle.brl_stream.specs.declared.fault.StreamFault.{StreamFault}
use Rattle.brl_cells.specs.declared.form.Form.{Form}
use Rattle.brl_rules.specs.TableView.{TableView}
use Rattle.brl_answers.specs.Answers.{HasNoTable, Then}
use Rattle.brl_answers.specs.declared.run_fault.RunFault.{RunFault}
use Rattle.brl_answers.specs.declared.run_fault.RunFault.TheVariants.{Stream, Memory}

-- ---- Characters that the table doesn't define

-- the code point of a character: its number in at least four hexadecimal digits
abbrev pub code_point : ℕ → List ℕ
code_point c = codes "U+" ++ padded_integral (format_spec 32 0 4 4 (2 ^ 64 - 1)) false [] (digits 16 true c)

-- the line of a character that the table doesn't define
abbrev pub lacking_line : Lacking → List ℕ
lacking_line lacking =
    codes "lacking " ++ encode_utf8_all (visible_text (lacking.character ∷ [])) ++ codes " " ++ code_point lacking.character ++ codes ": count " ++ decimal lacking.count
    ++ codes ", first line " ++ decimal lacking.line ++ codes "\n"

-- the lines of these characters
abbrev pub lacking_lines : List Lacking → List ℕ
lacking_lines list = flat_map lacking_line list

-- ---- The translation of an input

-- what the lines of an input give by a table and in a form; of those that have characters that are
-- lacking nothing, where these are to be listed
abbrev pub given_by : Bool → TableView → Form → List ℕ → List LineResult
given_by lacking t form bytes = if lacking then verdict_of_defined t form bytes else verdict t form bytes

-- what the lines of the input give was written, as far as the outcome says
abbrev pub WritesLines : Bool → TableView → Form → Option (List ℕ) → Option (List ℕ) → Option (List ℕ) → Result (Unit {0}) (Failure StreamFault) → Type 0
WritesLines lacking t form input old new outcome =
    (bytes : List ℕ) → input ≡ Some bytes → HasWritten (given_by lacking t form bytes) old new outcome

-- the text has the lines of all characters of the input that are lacking, where these are to be
-- listed; else it is empty
abbrev pub ListsLacking : Bool → TableView → Option (List ℕ) → List ℕ → Type 0
ListsLacking false t input text = text ≡ []
ListsLacking true t input text = (bytes : List ℕ) → input ≡ Some bytes → text ≡ lacking_lines (lacking_of t (lines_of bytes))

-- the input was translated by a table, up to its end or to the fault, and the answer has the lines
-- of lacking characters
abbrev pub TranslatesBy : Bool → TableView → Form → Option (List ℕ) → Option (List ℕ) → Option (List ℕ) → Result (String Global) RunFault → Type 0
TranslatesBy lacking t form input old new (Ok text) = WritesLines lacking t form input old new (Ok tt) × ListsLacking lacking t input (string_bytes text)
TranslatesBy lacking t form input old new (Err (Stream fault)) = WritesLines lacking t form input old new (Err (failures.Fault fault))
TranslatesBy lacking t form input old new (Err Memory) = WritesLines lacking t form input old new (Err failures.Memory)
TranslatesBy lacking t form input old new (Err fault) = ⊥

-- the input was translated by the table of the file at a path; where there is none, nothing was
-- written
abbrev pub TranslatesByFile : Bool → FileAnswers → List ℕ → Form → Option (List ℕ) → Option (List ℕ) → Option (List ℕ) → Result (String Global) RunFault → Type 0
TranslatesByFile lacking gives path form input old new outcome =
    Then (IsTableOf gives path) (λ fault. HasNoTable gives path fault × (new ≡ old)) (λ t. TranslatesBy lacking t form input old new) outcome
