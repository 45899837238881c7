-- Worked certificates and faults, written out as lines.
use Rattle.std.specs.Prelude.{◌≡◌, ℕ, ◌-◌, Bool, true, false, List, [], ◌∷◌, ◌++◌, drop, map, take, Result, Err, codes}
use Rattle.std.specs.List.{flat_map}
use Rattle.brl_cert.specs.Lines.{at_line}
use Rattle.brl_cert.specs.declared.fault.CertFault.{CertFault}
use Rattle.brl_cert.specs.declared.fault.CertFaultKind.{CertFaultKind}
use Rattle.brl_cert.specs.declared.fault.CertFaultKind.TheVariants.{Version, Syntax, NotCanonical, DuplicateState, DuplicatePair, NoSuchState, WrongCount, Truncated}
use Rattle.brl_states.specs.declared.window_state.WindowState.{WindowState}
use Rattle.brl_cert.specs.Reading.{reading}
use Rattle.brl_states.specs.declared.cert.Cert.TheVariants.{Window}
use Rattle.brl_states.specs.declared.cert.Cert.{Cert as Certificate}

-- the bytes of lines, each with its line feed
abbrev pub lines : List (List ℕ) → List ℕ
lines texts = flat_map (λ text. text ++ 10 ∷ []) texts

abbrev pub state : ℕ → Bool → List ℕ → WindowState
state before ended coming = record { before = record { 0 = before }; numeric = false; run = false; ended = ended; coming = coming }

-- three states and a pair
abbrev pub three_states : Certificate
three_states = Window (record {
  states = state 1 false [] ∷ state 8 false (97 ∷ []) ∷ state 8 true [] ∷ [];
  pairs = record { ahead = 1; behind = 2; lead = [] } ∷ [];
})

-- the lines before its end line
abbrev pub front : List (List ℕ)
front = codes "BRLCERT 1" ∷ codes "state 1 0 0 -" ∷ codes "state 8 0 0 61" ∷ codes "state 8 0 1 -" ∷ codes "pair 1 2 -" ∷ []

-- its lines
abbrev pub three_lines : List (List ℕ)
three_lines = front ++ codes "end 3 1" ∷ []

-- the start alone, which certifies the empty table
abbrev pub start_alone : Certificate
start_alone = Window (record { states = state 1 false [] ∷ []; pairs = [] })

-- bytes, the fault of their first faulty line, and its number
pub record Row : Type 0 where
  pub bytes : List ℕ
  pub wrong : CertFaultKind
  pub line : ℕ

abbrev pub row : List ℕ → CertFaultKind → ℕ → Row
row bytes wrong line = record { bytes = bytes; wrong = wrong; line = line }

-- a certificate with another line at a number, counted from 1: that line is the first faulty one
abbrev pub with_line : ℕ → CertFaultKind → List ℕ → Row
with_line n wrong line = row (lines (take (n - 1) three_lines ++ line ∷ drop n three_lines)) wrong n

-- with each of these lines in turn
abbrev pub with_each : ℕ → CertFaultKind → List (List ℕ) → List Row
with_each n wrong texts = map (with_line n wrong) texts

-- with one more line at a number
abbrev pub with_more : ℕ → CertFaultKind → List ℕ → Row
with_more n wrong line = row (lines (take (n - 1) three_lines ++ line ∷ drop (n - 1) three_lines)) wrong n

abbrev pub faulty : List Row
faulty =
    -- no bytes at all; a last line without its line feed; a byte after the end line; no end line
    (row [] Truncated 1 ∷ row (lines front ++ codes "end 3 ") Truncated 6 ∷ row (lines three_lines ++ codes "x") Syntax 7 ∷ row (lines front) Truncated 6 ∷ [])
    -- a number with a leading zero
    ++ with_each 2 NotCanonical (codes "state 01 0 0 -" ∷ [])
    -- a character with a leading zero; a capital hexadecimal digit
    ++ with_each 3 NotCanonical (codes "state 8 0 0 061" ∷ codes "state 8 0 0 6A" ∷ [])
    -- a number that is no character; a flag of two digits; a set of classes over 255; two blanks
    -- between fields
    ++ with_each 3 Syntax (codes "state 8 0 0 d800" ∷ codes "state 8 00 0 61" ∷ codes "state 256 0 0 61" ∷ codes "state 8  0 0 61" ∷ [])
    -- a state twice; a pair twice
    ++ (with_more 4 DuplicateState (codes "state 8 0 0 61") ∷ with_more 6 DuplicatePair (codes "pair 1 2 -") ∷ [])
    -- a pair of a state that is not there; such a pair twice: the state is missed first
    ++ (with_line 5 NoSuchState (codes "pair 1 3 -") ∷ row (lines (take 4 three_lines ++ codes "pair 1 3 -" ∷ codes "pair 1 3 -" ∷ codes "end 3 1" ∷ [])) NoSuchState 5 ∷ [])
    -- dots out of order
    ++ with_each 5 NotCanonical (codes "pair 1 2 21" ∷ [])
    -- a dot twice; a number of a state over its range
    ++ with_each 5 Syntax (codes "pair 1 2 11" ∷ codes "pair 4294967296 0 -" ∷ [])
    -- another number of pairs; a blank after the end line
    ++ (with_line 6 WrongCount (codes "end 3 2") ∷ with_line 6 Syntax (codes "end 3 1 ") ∷ [])
    -- a state after a pair; a line after the end line
    ++ (with_more 6 Syntax (codes "state 9 0 0 -") ∷ with_more 7 Syntax (codes "") ∷ [])
    -- states of another version than the header's
    ++ (row (lines (codes "BRLCERT 2" ∷ drop 1 three_lines)) Syntax 2 ∷ [])
    -- a version that is not known; one with a leading zero, as its spelling is tested first; one
    -- over its range
    ++ (with_line 1 Version (codes "BRLCERT 9") ∷ with_line 1 NotCanonical (codes "BRLCERT 09") ∷ with_line 1 Syntax (codes "BRLCERT 4294967296") ∷ [])

-- each row is refused as it says
abbrev pub AreRefused : List Row → Type 0
AreRefused rows = map (λ r. reading r.bytes) rows ≡ map (λ r. let fault : Result Certificate CertFault = Err (at_line r.line r.wrong) in fault) rows
