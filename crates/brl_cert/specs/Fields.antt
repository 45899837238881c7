-- The fields of a certificate's lines: the one spelling of each, and how it is read leniently. A
-- text is the list of its bytes, a character its code point, a cell its number. The project's own
-- choice.
use Rattle.std.specs.Prelude.{ℕ, nat_lt, nat_le, Bool, true, false, ◌&&◌, ◌||◌, ◌==◌, if◌then◌else◌, List, [], ◌∷◌, map, Option, Some, None, codes}
use Rattle.std.specs.Result.{result_ok}
use Rattle.std.specs.Str.{bytes_eq}
use Rattle.std.specs.Fmt.{decimal, digits}
use Rattle.std.specs.List.{slice_split, join_with_byte}
use Rattle.brl_cells.specs.Dots as dots
use Rattle.brl_lines.specs.Numbers.{lenient_number}
use Rattle.brl_rules.specs.declared.context.Context.{Context}

-- a kind of field: its one spelling, and the value of a field that is read leniently
pub record FieldFormat (A : Type 0) : Type 0 where
  pub spell : A → List ℕ
  pub lenient : List ℕ → Option A

-- steps that may give nothing, in sequence
infixl 10 ◌>>=◌
abbrev pub ◌>>=◌ : {A B : Type 0} → Option A → (A → Option B) → Option B
(Some x) >>= f = f x
None >>= f = None

-- ---- Numbers and flags

-- a decimal number up to the greatest
abbrev pub number : ℕ → FieldFormat ℕ
number greatest = record { spell = decimal; lenient = lenient_number 10 greatest }

-- the flag of a field
abbrev pub lenient_flag : List ℕ → Option Bool
lenient_flag field =
    if bytes_eq field (codes "0") then Some false else (if bytes_eq field (codes "1") then Some true else None)

-- the spelling of a flag
abbrev pub spelled_flag : Bool → List ℕ
spelled_flag false = codes "0"
spelled_flag true = codes "1"

-- a flag: 0 for false, 1 for true
abbrev pub flag : FieldFormat Bool
flag = record { spell = spelled_flag; lenient = lenient_flag }

-- ---- Characters

-- whether a number is the code point of a character
abbrev pub is_char : ℕ → Bool
is_char c = nat_lt c 0xD800 || (nat_le 0xE000 c && nat_le c 0x10FFFF)

-- the context of lenient fields: of its classes and of its numeric mode, with this run flag
abbrev pub lenient_context : List ℕ → List ℕ → Bool → Option Context
lenient_context b n run = (number 255).lenient b >>= λ before. flag.lenient n >>= λ numeric. Some (record { classes = record { 0 = before }; numeric = numeric; run = run })

-- the character of a field: a code point in hexadecimal
abbrev pub lenient_char : List ℕ → Option ℕ
lenient_char field = lenient_number 16 0x10FFFF field >>= λ c. if is_char c then Some c else None

-- a character by its code point in hexadecimal
abbrev pub character : FieldFormat ℕ
character = record { spell = digits 16 false; lenient = lenient_char }

-- the values of a list's members, if each has one
abbrev pub each : {A B : Type 0} → (A → Option B) → List A → Option (List B)
each f [] = Some []
each f (x ∷ xs) = f x >>= λ y. each f xs >>= λ ys. Some (y ∷ ys)

-- the spelling of some characters
abbrev pub spelled_chars : List ℕ → List ℕ
spelled_chars [] = codes "-"
spelled_chars (c ∷ cs) = join_with_byte 46 (map (digits 16 false) (c ∷ cs))

-- the characters of a field
abbrev pub lenient_chars : List ℕ → Option (List ℕ)
lenient_chars field =
    if bytes_eq field (codes "-") then Some [] else each lenient_char (slice_split (λ b. b == 46) field)

-- some characters: a minus for none, else the characters, joined by points
abbrev pub chars : FieldFormat (List ℕ)
chars = record { spell = spelled_chars; lenient = lenient_chars }

-- ---- Leads

-- the spelling of a lead
abbrev pub spelled_lead : List ℕ → List ℕ
spelled_lead [] = codes "-"
spelled_lead (cell ∷ cells) = dots.spelling (cell ∷ cells)

-- the lead of a field
abbrev pub lenient_lead : List ℕ → Option (List ℕ)
lenient_lead field = if bytes_eq field (codes "-") then Some [] else result_ok (dots.reading 1024 field)

-- a lead: a minus for no cells, else 1 to 1,024 cells in dots
abbrev pub lead : FieldFormat (List ℕ)
lead = record { spell = spelled_lead; lenient = lenient_lead }
