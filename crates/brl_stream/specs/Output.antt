-- What the lines of an input give, and what a stream writes. This is the project's own choice.
use Rattle.std.specs.Prelude.{ℕ, ◌≡◌, ◌≤◌, ◌+◌, if◌then◌else◌, nat_lt, nat_le, Bool, true, false, List, [], ◌∷◌, ◌++◌, length, take, map, Option, None, Some, option_map, Result, Ok, Err}
use Rattle.std.specs.List.{list_any, concat}
use Rattle.std.specs.Fmt.{option_append}
use Rattle.std.specs.Char.{encode_utf8}
use Rattle.std.specs.Str.{chars, is_utf8}
use Rattle.std.specs.Io.KnownBytes.{Appends, Consumes}
use Rattle.brl_rules.specs.TableView.{TableView}
use Rattle.brl_rules.specs.Translation.{translation}
use Rattle.brl_forward.specs.Faults.{first_unknown}
use Rattle.brl_cells.specs.Marks.{ascii_mark, unicode_mark}
use Rattle.brl_stream.specs.InputLines.{lines_of, ended, unended, without_return}
use Rattle.brl_stream.specs.declared.fault.LineFault.{LineFault}
use Rattle.brl_stream.specs.declared.fault.LineFault.TheVariants as faults
use Rattle.brl_stream.specs.declared.fault.StreamFault.{StreamFault}
use Rattle.brl_failure.specs.declared.failure.Failure.{Failure}
use Rattle.brl_failure.specs.declared.failure.Failure.TheVariants as failures
use Rattle.brl_cells.specs.declared.form.Form.{Form}
use Rattle.brl_cells.specs.declared.form.Form.TheVariants.{Ascii, Unicode}

-- what a line gives: its output, or its fault
abbrev pub LineResult : Type 0
LineResult = Result (List ℕ) LineFault

-- the bytes of a cell's mark in a form, if it has one
abbrev pub mark_of : Form → ℕ → Option (List ℕ)
mark_of Ascii cell = option_map (λ mark. mark ∷ []) (ascii_mark cell)
mark_of Unicode cell = Some (encode_utf8 (unicode_mark cell))

-- the bytes of the marks of cells in a form, if each has one
abbrev pub marks_of : Form → List ℕ → Option (List ℕ)
marks_of form [] = Some []
marks_of form (cell ∷ cells) = option_append (mark_of form cell) (marks_of form cells)

-- the most bytes of a line
abbrev pub most_line : ℕ
most_line = 65536

-- the most bytes of an input
abbrev pub most_input : ℕ
most_input = 16777216

-- the marks of a line and a line feed, or the fault of a cell without a mark
abbrev pub with_feed : Option (List ℕ) → LineResult
with_feed (Some marks) = Ok (marks ++ 10 ∷ [])
with_feed None = Err faults.NoAscii

-- this output, unless the text has an unknown character
abbrev pub unless_unknown : Option ℕ → LineResult → LineResult
unless_unknown (Some position) output = Err (faults.UnknownChar position)
unless_unknown None output = output

-- what a line gives: the marks of its translation and a line feed, unless it is too long, isn't
-- UTF-8, has a character that the table doesn't define, or a cell without a mark; the first of
-- these decides
unfoldable pub output_of : TableView → Form → List ℕ → LineResult
output_of t form line =
    if nat_lt most_line (length line) then Err faults.InputLineTooLong
    else if is_utf8 line then unless_unknown (first_unknown t (chars line)) (with_feed (marks_of form (translation t (chars line))))
    else Err faults.InputNotUtf8

-- what a line gives where lines with a character that the table doesn't define are passed over:
-- nothing for such a line
abbrev pub passing_over : LineResult → LineResult
passing_over (Err (faults.UnknownChar position)) = Ok []
passing_over output = output

-- what a line gives, by whether such lines are passed over
abbrev pub output_by : Bool → TableView → Form → List ℕ → LineResult
output_by true t form = λ line. passing_over (output_of t form line)
output_by false t form = output_of t form

-- the line is too long whatever follows: a carriage return at its end may belong to a line feed
abbrev pub is_long : List ℕ → Bool
is_long line = nat_lt most_line (length (without_return line))

-- what the lines give that these first bytes of an input decide, whatever follows
unfoldable pub decided : (List ℕ → LineResult) → List ℕ → List LineResult
decided output bytes = map output (ended bytes) ++ (if list_any is_long (unended bytes) then Err faults.InputLineTooLong ∷ [] else [])

-- what the lines of an input give, where at most this number of its bytes may be used
unfoldable pub verdict_within : (List ℕ → LineResult) → ℕ → List ℕ → List LineResult
verdict_within output most input =
    if nat_le (length input) most then map output (lines_of input)
    else decided output (take most input) ++ Err faults.InputTooLong ∷ []

-- what the lines of an input give
unfoldable pub verdict : TableView → Form → List ℕ → List LineResult
verdict t form input = verdict_within (output_of t form) most_input input

-- what they give where lines with a character that the table doesn't define are passed over
unfoldable pub verdict_of_defined : TableView → Form → List ℕ → List LineResult
verdict_of_defined t form input = verdict_within (output_by true t form) most_input input

-- the bytes are the output of an input whose lines all have one: the outputs of these, joined
abbrev pub IsOutput : TableView → Form → List ℕ → List ℕ → Type 0
IsOutput t form input output = (outputs : List (List ℕ)) × (verdict t form input ≡ map Ok outputs) × (output ≡ concat outputs)

-- a fault at the line with this number
abbrev pub at_line : ℕ → LineFault → StreamFault
at_line n fault = record { line = n; fault = fault }

-- what was written before a fault at line n: the outputs of the lines before it and, where the
-- writer failed, a first part of its own output
abbrev pub HasWrittenBefore : List LineResult → Option (List ℕ) → Option (List ℕ) → ℕ → LineFault → Type 0
HasWrittenBefore lines old new n faults.InputFailed =
    (outputs : List (List ℕ)) × (others : List LineResult) × (lines ≡ map Ok outputs ++ others)
    × (n ≡ length outputs + 1) × Appends old new (concat outputs)
HasWrittenBefore lines old new n faults.OutputFailed =
    (outputs : List (List ℕ)) × (front : List ℕ) × (rest : List ℕ) × (others : List LineResult)
    × (lines ≡ map Ok outputs ++ Ok (front ++ rest) ∷ others)
    × (n ≡ length outputs + 1) × Appends old new (concat outputs ++ front)
HasWrittenBefore lines old new n fault =
    (outputs : List (List ℕ)) × (others : List LineResult) × (lines ≡ map Ok outputs ++ Err fault ∷ others)
    × (n ≡ length outputs + 1) × Appends old new (concat outputs)

-- what was written, by the outcome of a call: the outputs of all lines, or of some first ones
abbrev pub HasWritten : List LineResult → Option (List ℕ) → Option (List ℕ) → Result (Unit {0}) (Failure StreamFault) → Type 0
HasWritten lines old new (Ok done) = (outputs : List (List ℕ)) × (lines ≡ map Ok outputs) × Appends old new (concat outputs)
HasWritten lines old new (Err failures.Memory) =
    (outputs : List (List ℕ)) × (others : List LineResult) × (lines ≡ map Ok outputs ++ others) × Appends old new (concat outputs)
HasWritten lines old new (Err (failures.Fault found)) = HasWrittenBefore lines old new found.line found.fault

-- no byte after the 16,777,217th was read
abbrev pub ReadsFew : Option (List ℕ) → Option (List ℕ) → Type 0
ReadsFew old new = (got : List ℕ) × Consumes old new got × (length got ≤ most_input + 1)

-- the bytes that were read decide the lines before line n, and no others
abbrev pub DecidesBefore : ℕ → (List ℕ → LineResult) → Option (List ℕ) → Option (List ℕ) → Type 0
DecidesBefore n output old new =
    (got : List ℕ) × Consumes old new got × (length got ≤ most_input) × (length (decided output got) + 1 ≡ n)

-- how a call ended, without its value
abbrev pub outcome_of : {T : Type 0} → Result T (Failure StreamFault) → Result (Unit {0}) (Failure StreamFault)
outcome_of (Ok value) = Ok tt
outcome_of (Err failure) = Err failure

-- the call ended with this fault at some line
abbrev pub EndsBy : LineFault → Result (Unit {0}) (Failure StreamFault) → Type 0
EndsBy fault result = (n : ℕ) × (result ≡ Err (failures.Fault (at_line n fault)))
