-- The characters of which texts are made, as an option spells them. The project's own choice.
use Rattle.std.specs.Prelude.{ℕ, ◌≡◌, List, [], ◌∷◌, Option, None, Some, Result, Ok, Err, string_bytes}
use Rattle.brl_answers.specs.Answers.{EndsAs, Provided, Then}
use Rattle.brl_answers.specs.declared.run_fault.RunFault.{RunFault}
use Rattle.brl_answers.specs.declared.run_fault.RunFault.TheVariants.{BadLeftOut, BadOnly, Memory, NotDefined}
use Rattle.brl_cli.specs.declared.command.AlphabetOption.{AlphabetOption}
use Rattle.brl_cli.specs.declared.command.AlphabetOption.TheVariants as options
use Rattle.brl_lines.specs.Escapes.{characters_of}
use Rattle.brl_lines.specs.declared.operand.CharsFault.{CharsFault}
use Rattle.brl_rules.specs.TableView.{TableView}
use Rattle.brl_without.specs.Alphabet.{AlphabetView, HasAll, IsLacking, Only, Without}
use Rattle.brl_without.specs.Spans.{spans_from}

-- all but the characters that a word spells as an operand of a table, if it spells any
abbrev pub without_spelled : Result (List ℕ) CharsFault → Option AlphabetView
without_spelled (Ok characters) = Some (Without characters)
without_spelled (Err fault) = None

-- the spans that the characters of such a word give, if there are some
abbrev pub only_spelled : Result (List ℕ) CharsFault → Option AlphabetView
only_spelled (Ok []) = None
only_spelled (Ok (c ∷ characters)) = Some (Only (spans_from 0 (c ∷ characters)))
only_spelled (Err fault) = None

-- the characters of which an option says that texts are made
abbrev pub spelled_by : AlphabetOption → Option AlphabetView
spelled_by options.All = Some (Without [])
spelled_by (options.Without word) = without_spelled (characters_of word.now)
spelled_by (options.Only word) = only_spelled (characters_of word.now)

-- the fault is that the option spells no characters, and names it as it was written; or memory ran
-- out
abbrev pub IsMisspelled : AlphabetOption → RunFault → Type 0
IsMisspelled (options.Without word) (BadLeftOut named) = (without_spelled (characters_of word.now) ≡ None) × (string_bytes named ≡ word.now)
IsMisspelled (options.Only word) (BadOnly named) = (only_spelled (characters_of word.now) ≡ None) × (string_bytes named ≡ word.now)
IsMisspelled option Memory = Unit {0}
IsMisspelled option fault = ⊥

-- what is answered for the characters of which an option says that texts are made, or that it
-- spells none
abbrev pub ByAlphabet : {A : Type 0} → AlphabetOption → (AlphabetView → Result A RunFault → Type 0) → Result A RunFault → Type 0
ByAlphabet option answers outcome = Then (λ alphabet. spelled_by option ≡ Some alphabet) (IsMisspelled option) answers outcome

-- what is answered where a table has the characters of an alphabet, or which it lacks
abbrev pub IfAllThere : {A : Type 0} → TableView → AlphabetView → (Result A RunFault → Type 0) → Result A RunFault → Type 0
IfAllThere t alphabet answers outcome = Provided (HasAll t alphabet) (EndsAs NotDefined (IsLacking t alphabet)) answers outcome
