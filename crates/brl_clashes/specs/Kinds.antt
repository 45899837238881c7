-- The kinds of a table's characters, and the kinds for which a list of clashes has sections. The
-- project's own choice.
use Rattle.std.specs.Prelude.{ℕ, ◌+◌, Bool, ◌||◌, ◌==◌, if◌then◌else◌, List, [], ◌∷◌, ◌++◌, drop, not}
use Rattle.std.specs.List.{filter, list_any}
use Rattle.brl_clashes.specs.declared.kind.Kind.{Kind}
use Rattle.brl_clashes.specs.declared.kind.Kind.TheVariants.{Letter, Digit, Capital, Mark, Other}
use Rattle.brl_rules.specs.Places.{digit, letter, punctuation, share, space, uppercase}
use Rattle.brl_rules.specs.TableView.{TableView}
use Rattle.brl_rules.specs.Text.{classes_of}
use Rattle.brl_rules.specs.declared.class.Class.{Class}
use Rattle.brl_without.specs.Alphabet.{table_characters}
use Rattle.brl_without.specs.LeftOut.{is_left_out}

-- the kind of a character of these classes: a capital, a digit, a small letter or blank, a mark, or
-- another one; the first of these that it is
abbrev pub kind_of : Class → Kind
kind_of classes =
    if share classes uppercase then Capital
    else if share classes digit then Digit
    else if share classes letter || share classes space then Letter
    else if share classes punctuation then Mark
    else Other

-- the kinds in the order of their sections
abbrev pub kinds : List Kind
kinds = Letter ∷ Digit ∷ Capital ∷ Mark ∷ Other ∷ []

-- the number of a kind in this order
abbrev pub number_of : Kind → ℕ
number_of Letter = 0
number_of Digit = 1
number_of Capital = 2
number_of Mark = 3
number_of Other = 4

-- whether a character of a table is of a kind
abbrev pub is_of : TableView → Kind → ℕ → Bool
is_of t kind c = number_of (kind_of (classes_of t c)) == number_of kind

-- the characters of a table that aren't left out
abbrev pub kept : TableView → List ℕ → List ℕ
kept t left_out = filter (λ c. not (is_left_out left_out c)) (table_characters t)

-- the kinds of these characters, in order
abbrev pub kinds_among : TableView → List ℕ → List Kind
kinds_among t characters = filter (λ kind. list_any (is_of t kind) characters) kinds

-- these kinds, or where there are none that of letters
abbrev pub or_letter : List Kind → List Kind
or_letter [] = Letter ∷ []
or_letter (kind ∷ more) = kind ∷ more

-- the kinds for which a list has sections: those of the characters that aren't left out
abbrev pub section_kinds : TableView → List ℕ → List Kind
section_kinds t left_out = or_letter (kinds_among t (kept t left_out))

-- the characters that are of one of these kinds
abbrev pub of_kinds : TableView → List Kind → List ℕ → List ℕ
of_kinds t later characters = filter (λ c. list_any (λ kind. is_of t kind c) later) characters

-- what the texts of the section with a number, from 0, don't use: what is left out, and the
-- characters of the kinds of later sections
abbrev pub left_out_in : TableView → List ℕ → ℕ → List ℕ
left_out_in t left_out place = left_out ++ of_kinds t (drop (place + 1) (section_kinds t left_out)) (kept t left_out)
