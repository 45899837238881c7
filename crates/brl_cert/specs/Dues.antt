-- The states of certificates of versions 2 and 3, as fields. The project's own choice.
use Rattle.std.specs.Prelude.{ℕ, Bool, false, ◌==◌, if◌then◌else◌, List, [], ◌∷◌, ◌++◌, length, map, Option, Some, None}
use Rattle.std.specs.Fmt.{decimal, digits}
use Rattle.std.specs.List.{join_with_byte, slice_split}
use Rattle.brl_rules.specs.declared.class.Class.{Class}
use Rattle.brl_rules.specs.declared.place.Cond.{Cond}
use Rattle.brl_rules.specs.declared.place.Cond.TheVariants.{Any, Meets, Avoids}
use Rattle.brl_states.specs.DuesContext.{state_in}
use Rattle.brl_states.specs.Order.{in_order, is_proper}
use Rattle.brl_states.specs.declared.due.Due.{Due}
use Rattle.brl_states.specs.declared.due.Due.TheVariants.{Need, Bar}
use Rattle.brl_states.specs.declared.dues_state.DuesState.{DuesState}
use Rattle.brl_states.specs.contracts.dues_state.DuesStatePartialEq.TheImpl.{eq-value}
use Rattle.brl_cert.specs.Fields.{◌>>=◌, each, flag, lenient_char, lenient_context, number}
use Rattle.brl_cert.specs.Lines.{StateFormat}

-- ---- Spelling

-- the spelling of a condition: a star, or a plus or a minus and the number of the set
abbrev pub spelled_cond : Cond → List ℕ
spelled_cond Any = 42 ∷ []
spelled_cond (Meets set) = 43 ∷ decimal set.0
spelled_cond (Avoids set) = 45 ∷ decimal set.0

-- the spelling of a due: an n and the condition; or a b, the characters, joined by points, and the
-- condition
abbrev pub spelled_due : Due → List ℕ
spelled_due (Need cond) = 110 ∷ spelled_cond cond
spelled_due (Bar chars cond) = 98 ∷ (join_with_byte 46 (map (digits 16 false) chars) ++ spelled_cond cond)

-- the fields of a dues state in version 2
abbrev pub dues_fields : DuesState → List (List ℕ)
dues_fields s = (number 255).spell s.before.0 ∷ flag.spell s.numeric ∷ map spelled_due s.dues

-- the fields of a dues state in version 3, which has one for the run
abbrev pub word_fields : DuesState → List (List ℕ)
word_fields s = (number 255).spell s.before.0 ∷ flag.spell s.numeric ∷ flag.spell s.run ∷ map spelled_due s.dues

-- ---- Reading

-- the due of a condition and the part before it: an n alone, or a b and characters
abbrev pub lenient_head : Cond → List ℕ → Option Due
lenient_head cond [] = None
lenient_head cond (first ∷ rest) =
    if first == 110 then (if length rest == 0 then Some (Need cond) else None)
    else (if first == 98 then (each lenient_char (slice_split (λ b. b == 46) rest) >>= λ chars. Some (Bar chars cond)) else None)

-- the due whose condition has a set, from the parts before and after the mark
abbrev pub lenient_set : (Class → Cond) → List (List ℕ) → Option Due
lenient_set cond (head ∷ set ∷ []) = (number 255).lenient set >>= λ n. lenient_head (cond (record { 0 = n })) head
lenient_set cond parts = None

-- the due whose condition is Any, from the parts before and after the star
abbrev pub lenient_any : List (List ℕ) → Option Due
lenient_any (head ∷ set ∷ []) = if length set == 0 then lenient_head Any head else None
lenient_any parts = None

-- the first value, or else the other
abbrev pub or_else : {A : Type 0} → Option A → Option A → Option A
or_else None other = other
or_else (Some x) other = Some x

-- the due of a field, which is cut at the mark of its condition
abbrev pub lenient_parts : List ℕ → Option Due
lenient_parts field =
    or_else (lenient_set Meets (slice_split (λ b. b == 43) field))
    (or_else (lenient_set Avoids (slice_split (λ b. b == 45) field)) (lenient_any (slice_split (λ b. b == 42) field)))

-- the due of a lenient field, if it requires anything
abbrev pub lenient_due : List ℕ → Option Due
lenient_due field = lenient_parts field >>= λ due. if is_proper due then Some due else None

-- the dues state of lenient fields: of its classes and its numeric mode, with this run flag, and of
-- its dues
abbrev pub lenient_state : List ℕ → List ℕ → Bool → List (List ℕ) → Option DuesState
lenient_state b n run fields = lenient_context b n run >>= λ here. each lenient_due fields >>= λ dues. Some (state_in here (in_order dues))

-- the dues state of lenient fields of version 2
abbrev pub lenient_dues : List (List ℕ) → Option DuesState
lenient_dues (b ∷ n ∷ fields) = lenient_state b n false fields
lenient_dues fields = None

-- the dues state of lenient fields of version 3
abbrev pub lenient_word : List (List ℕ) → Option DuesState
lenient_word (b ∷ n ∷ r ∷ fields) = flag.lenient r >>= λ run. lenient_state b n run fields
lenient_word fields = None

-- a dues state that no run of capitals goes to: the classes before as a number, numeric mode, and
-- the dues, which leniently may come in any order
abbrev pub dues_format : StateFormat DuesState
dues_format = record { fields = dues_fields; lenient = lenient_dues; same = eq-value.it }

-- a dues state: the same, with whether a run of capitals goes to it before the dues
abbrev pub word_format : StateFormat DuesState
word_format = record { fields = word_fields; lenient = lenient_word; same = eq-value.it }
