-- Texts over a table's characters, and the context of a position: the classes of the character
-- before it, numeric mode, and whether two capitals are before it. The manual has classes and
-- `litdigit` in section "Character-Definition Opcodes", and `numericmodechars` and `begcapsword` in
-- section "Braille Indicator Opcodes". That both ends of a text count as class space, and when
-- exactly numeric mode holds, is this project's own choice: a `numericmodechars` character keeps
-- the mode and never starts it.
use Rattle.std.specs.Prelude.{ℕ, zero, suc, Bool, false, ◌&&◌, ◌||◌, List, [], ◌∷◌, nat_lt, length, is_some, slice_get}
use Rattle.std.specs.List.{list_all}
use Rattle.std.specs.Option.{option_map_or}
use Rattle.brl_rules.specs.declared.class.Class.{Class}
use Rattle.brl_rules.specs.declared.context.Context.{Context}
use Rattle.brl_rules.specs.declared.signs.Sign.TheVariants.{BegCapsWord}
use Rattle.brl_rules.specs.TableView.{TableView, info_of, indicator_cells}
use Rattle.brl_rules.specs.Places.{space, uppercase, none, share}

-- the table defines the character
abbrev pub is_defined : TableView → ℕ → Bool
is_defined t c = is_some (info_of t c)

-- a text is a list of characters that the table defines
abbrev pub is_text : TableView → List ℕ → Bool
is_text t text = list_all (is_defined t) text

-- the classes of a character; an undefined one has none
abbrev pub classes_of : TableView → ℕ → Class
classes_of t c = option_map_or (λ info. info.classes) (info_of t c) none

-- the fold of a character; an undefined one is its own fold
abbrev pub fold_of : TableView → ℕ → ℕ
fold_of t c = option_map_or (λ info. info.fold) (info_of t c) c

-- whether the character has a `litdigit` line
abbrev pub is_literary : TableView → ℕ → Bool
is_literary t c = option_map_or (λ info. info.literary) (info_of t c) false

-- whether the character is in `numericmodechars`
abbrev pub is_mode : TableView → ℕ → Bool
is_mode t c = option_map_or (λ info. info.mode) (info_of t c) false

-- whether the character is in `numericnocontchars`
abbrev pub is_nocont : TableView → ℕ → Bool
is_nocont t c = option_map_or (λ info. info.nocont) (info_of t c) false

-- the classes of the character at a place, and class space where the text has none there
abbrev pub classes_at : TableView → List ℕ → ℕ → Class
classes_at t text i = option_map_or (classes_of t) (slice_get text i) space

-- the classes of the character before position i, and class space at the start
abbrev pub classes_before : TableView → List ℕ → ℕ → Class
classes_before t text zero = space
classes_before t text (suc i) = classes_at t text i

-- numeric mode after a character, given whether it held before it
abbrev pub numeric_after : TableView → ℕ → Bool → Bool
numeric_after t c numeric = is_literary t c || (is_mode t c && numeric)

-- numeric mode at position i: the character before is a literary digit, or keeps the mode
abbrev pub numeric_at : TableView → List ℕ → ℕ → Bool
numeric_at t text zero = false
numeric_at t text (suc i) = option_map_or (λ c. numeric_after t c (numeric_at t text i)) (slice_get text i) false

-- whether a table has word capitals: it defines `begcapsword`
abbrev pub has_word_capitals : TableView → Bool
has_word_capitals t = nat_lt 0 (length (indicator_cells t BegCapsWord))

-- whether a character of these classes is a capital
abbrev pub is_capital : Class → Bool
is_capital classes = share classes uppercase

-- whether two capitals in a row, of these classes, make a run of capitals in this table
abbrev pub are_caps_run : TableView → Class → Class → Bool
are_caps_run t first second = has_word_capitals t && is_capital first && is_capital second

-- whether a rest of a text begins in a run of capitals, after a character of these classes: in a
-- table with word capitals its first character is a capital, and so is the one before it or the one
-- after it
abbrev pub is_in_caps_run : TableView → Class → List ℕ → Bool
is_in_caps_run t before rest =
    has_word_capitals t && is_capital (classes_at t rest 0) && (is_capital before || is_capital (classes_at t rest 1))

-- whether a run of capitals goes to position i: the two characters before it are capitals, in a
-- table with word capitals
abbrev pub caps_before_at : TableView → List ℕ → ℕ → Bool
caps_before_at t text zero = false
caps_before_at t text (suc i) = are_caps_run t (classes_before t text i) (classes_at t text i)

-- the context of position i: what it knows of the text before it
abbrev pub context_at : TableView → List ℕ → ℕ → Context
context_at t text i = record { classes = classes_before t text i; numeric = numeric_at t text i; run = caps_before_at t text i }

-- the context at the start of a text
abbrev pub at_start : Context
at_start = record { classes = space; numeric = false; run = false }

-- the context after one more character
abbrev pub context_after : TableView → Context → ℕ → Context
context_after t here c = record {
  classes = classes_of t c;
  numeric = numeric_after t c here.numeric;
  run = are_caps_run t here.classes (classes_of t c);
}

-- the context after more characters
abbrev pub context_after_all : TableView → Context → List ℕ → Context
context_after_all t here [] = here
context_after_all t here (c ∷ cs) = context_after_all t (context_after t here c) cs
