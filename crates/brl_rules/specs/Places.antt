-- Classes, conditions on the classes of a neighbour, and the conditions of each place on both
-- neighbours. The manual, section "Translation Opcodes", says where in a word each place allows a
-- rule; by which classes is this project's own choice.
use Rattle.std.specs.Prelude.{Bool, true, false, not, ◌==◌, if◌then◌else◌}
use Rattle.std.specs.Int.RustNames.{bit_and}
use Rattle.brl_rules.specs.declared.class.Class.{Class}
use Rattle.brl_rules.specs.declared.place.Cond.{Cond}
use Rattle.brl_rules.specs.declared.place.Cond.TheVariants.{Any, Meets, Avoids}
use Rattle.brl_rules.specs.declared.place.Conditions.{Conditions}
use Rattle.brl_rules.specs.declared.place.Place.{Place}
use Rattle.brl_rules.specs.declared.place.Place.TheVariants.{Always, Word, Sufword, Prfword, Begword, Begmidword, Midword, Midendword, Endword, Partword, Begnum, Midnum, Endnum}

-- no class
abbrev pub none : Class
none = record { 0 = 0 }

-- class space
abbrev pub space : Class
space = record { 0 = 1 }

-- class space or punctuation
abbrev pub gap : Class
gap = record { 0 = 3 }

-- class punctuation
abbrev pub punctuation : Class
punctuation = record { 0 = 2 }

-- class digit
abbrev pub digit : Class
digit = record { 0 = 4 }

-- class letter
abbrev pub letter : Class
letter = record { 0 = 8 }

-- class space, punctuation or letter
abbrev pub gap_or_letter : Class
gap_or_letter = record { 0 = 11 }

-- class uppercase
abbrev pub uppercase : Class
uppercase = record { 0 = 32 }

-- class sign
abbrev pub sign : Class
sign = record { 0 = 64 }

-- class math
abbrev pub math : Class
math = record { 0 = 128 }

-- the classes lowercase and letter
abbrev pub lowercase_letter : Class
lowercase_letter = record { 0 = 24 }

-- the classes uppercase and letter
abbrev pub uppercase_letter : Class
uppercase_letter = record { 0 = 40 }

-- whether two sets share a class
abbrev pub share : Class → Class → Bool
share a b = not (bit_and a.0 b.0 == 0)

-- whether classes meet a condition
abbrev pub holds : Cond → Class → Bool
holds Any classes = true
holds (Meets set) classes = share classes set
holds (Avoids set) classes = not (share classes set)

-- this condition on the character before a rule, and this one on the character after it
abbrev pub asks : Cond → Cond → Conditions
asks before after = record { before = before; after = after }

-- the conditions of a place, where the character before a rule has the classes `here`
abbrev pub conditions_of : Place → Class → Conditions
conditions_of Always here = asks Any Any
conditions_of Word here = asks (Meets gap) (Meets gap)
conditions_of Sufword here = asks (Meets gap) (Meets gap_or_letter)
conditions_of Prfword here = asks (Meets gap_or_letter) (Meets gap)
conditions_of Begword here = asks (Meets gap) (Meets letter)
conditions_of Begmidword here = asks (Meets gap_or_letter) (Meets letter)
conditions_of Midword here = asks (Meets letter) (Meets letter)
conditions_of Midendword here = asks (Meets letter) (Meets gap_or_letter)
conditions_of Endword here = asks (Meets letter) (Meets gap)
conditions_of Partword here = asks Any (if share here letter then Any else Meets letter)
conditions_of Begnum here = asks (Meets gap) (Meets digit)
conditions_of Midnum here = asks (Meets digit) (Meets digit)
conditions_of Endnum here = asks (Meets digit) (Avoids digit)

-- the condition of a place on the character before a rule
abbrev pub before_of : Place → Cond
before_of place = (conditions_of place none).before

-- the condition on the character after a rule, where the one before has these classes
abbrev pub after_of : Place → Class → Cond
after_of place before = (conditions_of place before).after

-- whether a place is any but `always`: a rule that has one is placed
abbrev pub is_placed : Place → Bool
is_placed Always = false
is_placed place = true
