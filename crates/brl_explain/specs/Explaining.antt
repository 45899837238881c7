-- What explains a fault. The texts are the constant `FAULTS`. The project's own choice.
use Rattle.std.specs.Prelude.{ℕ, Bool, if◌then◌else◌, List, Option, codes, map, nat_eq, bytes_eq}
use Rattle.std.specs.List.{after_first, before_first, find}
use Rattle.brl_explain.specs.declared.faults.TheConstants.{FAULTS}

-- a blank
abbrev pub is_blank : ℕ → Bool
is_blank byte = nat_eq byte 32

-- the end of a line
abbrev pub is_line_end : ℕ → Bool
is_line_end byte = nat_eq byte 10

-- the code of a line: its first word, and where that is `refused:` the next
abbrev pub code_of : List ℕ → List ℕ
code_of line =
    if bytes_eq (before_first is_blank line) (codes "refused:") then before_first is_blank (after_first is_blank line)
    else before_first is_blank line

-- whether a text explains a code: its first word is the code
abbrev pub explains : List ℕ → List ℕ → Bool
explains code text = bytes_eq (before_first is_blank (before_first is_line_end text)) code

-- the text that explains the fault of a line: the first that explains its code
unfoldable pub text_of_fault : List ℕ → Option (List ℕ)
text_of_fault line = find (explains (code_of line)) (map (λ text. text.now) FAULTS)
