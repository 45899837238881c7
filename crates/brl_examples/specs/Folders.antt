-- Worked tables whose files are looked for in folders.
use Rattle.std.specs.Prelude.{ℕ, List, [], ◌∷◌, codes, Some, Result, Ok, Err}
use Rattle.brl_lines.specs.Answer.{FileAnswer, Holds, Missing}
use Rattle.brl_lines.specs.Examples.{token}
use Rattle.brl_lines.specs.Lines.{Answers, Refusal, refusal}
use Rattle.brl_lines.specs.Tokens.{LineView}
use Rattle.brl_lines.specs.declared.fault.LoadFaultKind.TheVariants as kinds

-- two folders
abbrev pub one_then_two : List (List ℕ)
one_then_two = codes "one" ∷ codes "two" ∷ []

-- a table that includes a file: this is answered at the file's usual place, and both folders have
-- one
abbrev pub in_folders : FileAnswer → Answers
in_folders usual =
    (codes "t", Holds (codes "include u")) ∷ (codes "u", usual) ∷ (codes "one/u", Holds (codes "letter a 1"))
    ∷ (codes "two/u", Holds (codes "letter b 1")) ∷ []

-- the lines, where that file is found at a path
abbrev pub lines_at : List ℕ → Result (List LineView) Refusal
lines_at path = Ok (record { file = path; line = 1; opcode = token (codes "letter") 0; operands = token (codes "a") 7 ∷ token (codes "1") 9 ∷ [] } ∷ [])

-- a file that can't be read at its usual place isn't looked for elsewhere
abbrev pub unread_refused : Result (List LineView) Refusal
unread_refused = Err (refusal kinds.ReadFailed (codes "u") (Some (record { file = codes "t"; line = 1 })))

-- without folders it isn't found
abbrev pub none_refused : Result (List LineView) Refusal
none_refused = Err (refusal kinds.NotFound (codes "u") (Some (record { file = codes "t"; line = 1 })))

-- a table that is in a folder: what it includes is beside it
abbrev pub root_in_folder : Answers
root_in_folder =
    (codes "t", Missing) ∷ (codes "u", Holds (codes "letter c 1")) ∷ (codes "one/t", Holds (codes "include u"))
    ∷ (codes "one/u", Holds (codes "letter a 1")) ∷ []
