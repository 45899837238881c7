-- Worked tables: files with their bytes, and the lines that they define.
use Rattle.std.specs.Prelude.{ℕ, List, [], ◌∷◌, codes, Some, Result, Ok, Err}
use Rattle.brl_lines.specs.Answer.{Holds, Missing}
use Rattle.brl_lines.specs.Lines.{Answers, Refusal, refusal}
use Rattle.brl_lines.specs.Tokens.{LineView, TokenView}
use Rattle.brl_lines.specs.declared.fault.LoadFaultKind.TheVariants as kinds

-- a token with this text, from this place on
abbrev pub token : List ℕ → ℕ → TokenView
token text start = record { text = text; start = start }

-- names are looked for beside the root
abbrev pub nested : Answers
nested =
    (codes "d/t.ctb", Holds (codes "include u.ctb")) ∷ (codes "d/u.ctb", Holds (codes "include v/w.ctb"))
    ∷ (codes "d/v/w.ctb", Holds (codes "include x.ctb")) ∷ (codes "d/x.ctb", Holds (codes "letter a 1")) ∷ []

-- their lines
abbrev pub nested_lines : Result (List LineView) Refusal
nested_lines = Ok (record { file = codes "d/x.ctb"; line = 1; opcode = token (codes "letter") 0; operands = token (codes "a") 7 ∷ token (codes "1") 9 ∷ [] } ∷ [])

-- a file that leads to itself
abbrev pub in_a_circle : Answers
in_a_circle = (codes "t.ctb", Holds (codes "include u.ctb")) ∷ (codes "u.ctb", Holds (codes "include t.ctb")) ∷ []

-- it is refused
abbrev pub circle_refused : Result (List LineView) Refusal
circle_refused = Err (refusal kinds.Cycle (codes "t.ctb") (Some (record { file = codes "u.ctb"; line = 1 })))

-- a file that isn't there
abbrev pub lacking : Answers
lacking = (codes "t.ctb", Holds (codes "include u")) ∷ (codes "u", Missing) ∷ []

-- it is refused
abbrev pub lacking_refused : Result (List LineView) Refusal
lacking_refused = Err (refusal kinds.NotFound (codes "u") (Some (record { file = codes "t.ctb"; line = 1 })))
