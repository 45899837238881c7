-- The lines after the header of a certificate, over states of any format. The project's own choice.
use Rattle.std.specs.Prelude.{ℕ, suc, ◌+◌, ◌≤◌, Bool, true, false, ◌&&◌, not, nat_lt, ◌==◌, if◌then◌else◌, List, [], ◌∷◌, ◌++◌, length, Option, Some, None, Result, Ok, Err, codes}
use Rattle.std.specs.Str.{bytes_eq}
use Rattle.std.specs.Fmt.{decimal}
use Rattle.std.specs.List.{slice_split, join_with_byte, flat_map, list_any}
use Rattle.brl_cert.specs.declared.fault.CertFault.{CertFault}
use Rattle.brl_cert.specs.declared.fault.CertFaultKind.{CertFaultKind}
use Rattle.brl_cert.specs.declared.fault.CertFaultKind.TheVariants.{Syntax, NotCanonical, DuplicateState, DuplicatePair, NoSuchState, WrongCount, Truncated}
use Rattle.brl_pairs.specs.Body.{BodyView, NumberPair, same_pair}
use Rattle.brl_cert.specs.declared.line.Line.{Line}
use Rattle.brl_cert.specs.declared.line.Line.TheVariants.{State, Pair, End}
use Rattle.brl_cert.specs.Fields.{◌>>=◌, FieldFormat, number, lead}

-- how a version writes states: the fields after the word state, the state of lenient fields, and
-- when two states are equal
pub record StateFormat (S : Type 0) : Type 0 where
  pub fields : S → List (List ℕ)
  pub lenient : List (List ℕ) → Option S
  pub same : S → S → Bool

-- the number of a state, or a count
abbrev pub count : FieldFormat ℕ
count = number 4294967295

-- steps that may fail, in sequence
infixl 10 ◌>>>◌
abbrev pub ◌>>>◌ : {A B E : Type 0} → Result A E → (A → Result B E) → Result B E
(Ok x) >>> f = f x
(Err e) >>> f = Err e

-- a fault of this kind in the line with this number
abbrev pub at_line : ℕ → CertFaultKind → CertFault
at_line n kind = record { kind = kind; line = n }

-- a line's outcome, its fault with the number of the line
abbrev pub placed : {A : Type 0} → ℕ → Result A CertFaultKind → Result A CertFault
placed n (Ok x) = Ok x
placed n (Err kind) = Err (at_line n kind)

module _ {S : Type 0} where
  -- whether a line may follow the lines of this body: a state line comes before all pair lines
  abbrev pub may_follow : BodyView S → Line S → Bool
  may_follow body (State s) = length body.pairs == 0
  may_follow body (Pair p) = true
  may_follow body (End s p) = true

  -- the lead of a pair line has at most 1,024 cells
  abbrev pub HasShortLead : Line S → Type 0
  HasShortLead (State s) = Unit {0}
  HasShortLead (Pair p) = length p.lead ≤ 1024
  HasShortLead (End s p) = Unit {0}

  -- whether it is an end line
  abbrev pub is_end : Line S → Bool
  is_end (State s) = false
  is_end (Pair p) = false
  is_end (End s p) = true

-- ---- Spelling

-- fields, each after a blank
abbrev pub after_blanks : List (List ℕ) → List ℕ
after_blanks fields = flat_map (λ field. 32 ∷ field) fields

-- the fields of a pair line
abbrev pub pair_fields : NumberPair → List (List ℕ)
pair_fields p = codes "pair" ∷ decimal p.ahead ∷ decimal p.behind ∷ lead.spell p.lead ∷ []

-- the fields of an end line
abbrev pub end_fields : ℕ → ℕ → List (List ℕ)
end_fields s p = codes "end" ∷ decimal s ∷ decimal p ∷ []

module _ {S : Type 0} (form : StateFormat S) where
  -- the fields of a line
  abbrev pub fields_of : Line S → List (List ℕ)
  fields_of (State s) = codes "state" ∷ form.fields s
  fields_of (Pair p) = pair_fields p
  fields_of (End s p) = end_fields s p

  -- a line without its line feed: its fields, separated by one blank
  abbrev pub spelled_line : Line S → List ℕ
  spelled_line line = join_with_byte 32 (fields_of line)

  -- a line with its line feed
  abbrev pub whole_line : Line S → List ℕ
  whole_line line = spelled_line line ++ 10 ∷ []

  -- the lines after the header: the states, the pairs, and their numbers
  abbrev pub spelled_body : BodyView S → List ℕ
  spelled_body body = flat_map (λ s. whole_line (State s)) body.states ++ flat_map (λ p. whole_line (Pair p)) body.pairs
      ++ whole_line (End (length body.states) (length body.pairs))

  -- ---- Reading one line

  -- the pair line of lenient fields
  abbrev pub lenient_pair : List (List ℕ) → Option (Line S)
  lenient_pair (a ∷ b ∷ l ∷ []) = count.lenient a >>= λ ahead. count.lenient b >>= λ behind. lead.lenient l >>= λ cells.
      Some (Pair (record { ahead = ahead; behind = behind; lead = cells }))
  lenient_pair fields = None

  -- the end line of lenient fields
  abbrev pub lenient_end : List (List ℕ) → Option (Line S)
  lenient_end (s ∷ p ∷ []) = count.lenient s >>= λ n. count.lenient p >>= λ m. Some (End n m)
  lenient_end fields = None

  -- the line of lenient fields
  abbrev pub lenient_line : List (List ℕ) → Option (Line S)
  lenient_line [] = None
  lenient_line (word ∷ fields) =
      if bytes_eq word (codes "state") then (form.lenient fields >>= λ s. Some (State s))
      else (if bytes_eq word (codes "pair") then lenient_pair fields
      else (if bytes_eq word (codes "end") then lenient_end fields else None))

  -- the line that was read leniently from these bytes, if it may come here and they are its one
  -- spelling
  abbrev pub strict_line : BodyView S → List ℕ → Option (Line S) → Result (Line S) CertFaultKind
  strict_line body bytes None = Err Syntax
  strict_line body bytes (Some line) =
      if not (may_follow body line) then Err Syntax
      else (if bytes_eq (spelled_line line) bytes then Ok line else Err NotCanonical)

  -- the line that bytes spell, as far as its spelling and its place decide
  abbrev pub line_of : BodyView S → List ℕ → Result (Line S) CertFaultKind
  line_of body bytes = strict_line body bytes (lenient_line (slice_split (λ b. b == 32) bytes))

  -- the body with this line added
  abbrev pub add_line : BodyView S → Line S → Result (BodyView S) CertFaultKind
  add_line body (State s) =
      if list_any (form.same s) body.states then Err DuplicateState
      else Ok (record { states = body.states ++ s ∷ []; pairs = body.pairs })
  add_line body (Pair p) =
      if not (nat_lt p.ahead (length body.states) && nat_lt p.behind (length body.states)) then Err NoSuchState
      else (if list_any (same_pair p) body.pairs then Err DuplicatePair
      else Ok (record { states = body.states; pairs = body.pairs ++ p ∷ [] }))
  add_line body (End s p) = if (length body.states == s) && (length body.pairs == p) then Ok body else Err WrongCount

  -- one line read and added: whether it is the end line, and the longer body
  abbrev pub one_line : BodyView S → List ℕ → Result (Bool × BodyView S) CertFaultKind
  one_line body bytes = line_of body bytes >>> λ line. add_line body line >>> λ longer. Ok (is_end line, longer)

  -- ---- Reading line by line

  -- The body of all lines, where the lines before number n gave this one and these parts are left:
  -- the lines from number n on and, last, the bytes after the last line feed. Nothing may follow
  -- the line feed of the end line.
  abbrev pub body_of : ℕ → BodyView S → List (List ℕ) → Result (BodyView S) CertFault
  body_of n body [] = Err (at_line n Truncated)
  body_of n body (last ∷ []) = Err (at_line n Truncated)
  body_of n body (bytes ∷ next ∷ more) = placed n (one_line body bytes) >>> λ x.
      if not x.0 then body_of (suc n) x.1 (next ∷ more)
      else (if length next + length more == 0 then Ok x.1 else Err (at_line (suc n) Syntax))
