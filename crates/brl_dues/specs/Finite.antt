-- The finite lists from which the states of the dues machine and the cells of its steps come. They
-- depend on the table alone, and are this project's own choice.
use Rattle.std.specs.Prelude.{ℕ, zero, suc, true, false, List, [], ◌∷◌, ◌++◌, length, map}
use Rattle.std.specs.List.{flat_map}
use Rattle.brl_rules.specs.declared.class.Class.{Class}
use Rattle.brl_rules.specs.declared.context.Context.{Context}
use Rattle.brl_rules.specs.declared.place.Cond.{Cond}
use Rattle.brl_rules.specs.declared.place.Cond.TheVariants.{Any, Meets, Avoids}
use Rattle.brl_rules.specs.declared.rule.Rule.{Rule}
use Rattle.brl_rules.specs.Indicators.{indicators_before}
use Rattle.brl_rules.specs.Places.{digit, gap, gap_or_letter, letter, none, space, uppercase}
use Rattle.brl_rules.specs.TableView.{TableView}
use Rattle.brl_rules.specs.Text.{classes_of}
use Rattle.brl_states.specs.declared.due.Due.{Due}
use Rattle.brl_states.specs.declared.due.Due.TheVariants.{Bar}
use Rattle.brl_states.specs.declared.dues_state.DuesState.{DuesState}
use Rattle.brl_dues.specs.Capitals.{choices, letters}
use Rattle.brl_dues.specs.Carry.{left_of, need, opposed}
use Rattle.brl_dues.specs.CaseForm.{CaseForm, forms}
use Rattle.brl_states.specs.DuesContext.{state_in}

-- ---- Lists

-- what a list ends with: itself, and what is left of it after its first elements
abbrev pub endings : {X : Type 0} → List X → List (List X)
endings [] = [] ∷ []
endings (x ∷ xs) = (x ∷ xs) ∷ endings xs

-- the lists of at most n of these elements
abbrev pub lists_up_to : {X : Type 0} → List X → ℕ → List (List X)
lists_up_to xs zero = [] ∷ []
lists_up_to xs (suc n) = [] ∷ flat_map (λ x. map (λ l. x ∷ l) (lists_up_to xs n)) xs

-- ---- The character before

-- the classes of the character before: class space, those of the table's characters, and no class
-- for any other character
abbrev pub all_classes : TableView → List Class
all_classes t = space ∷ none ∷ map (classes_of t) (letters t)

-- the contexts with these classes, in and out of numeric mode, and of a run of capitals
abbrev pub with_classes : Class → List Context
with_classes classes =
    record { classes = classes; numeric = false; run = false } ∷ record { classes = classes; numeric = false; run = true }
    ∷ record { classes = classes; numeric = true; run = false } ∷ record { classes = classes; numeric = true; run = true } ∷ []

-- the contexts that a state may have
abbrev pub all_contexts : TableView → List Context
all_contexts t = flat_map with_classes (all_classes t)

-- ---- Dues

-- the conditions that places set for the character after a rule
abbrev pub after_conds : List Cond
after_conds = Any ∷ Meets gap ∷ Meets gap_or_letter ∷ Meets letter ∷ Meets digit ∷ Avoids digit ∷ []

-- these, and that the next character is a capital or isn't one
abbrev pub need_conds : List Cond
need_conds = Meets uppercase ∷ Avoids uppercase ∷ after_conds

-- the need of such a condition, and of its opposite
abbrev pub needs_of : Cond → List Due
needs_of cond = left_of (need cond) ++ left_of (opposed cond)

-- the texts that a rule may still take with these characters, out of a run of capitals and in one
abbrev pub texts_of : TableView → List ℕ → List (List ℕ)
texts_of t chars = chars ∷ choices t chars

-- the bars of these texts
abbrev pub bars_with : List ℕ → List Due
bars_with text = map (Bar text) after_conds

-- the bars of what the rule ends with
abbrev pub bars_from : TableView → Rule → List Due
bars_from t r = flat_map bars_with (flat_map (texts_of t) (endings r.chars))

-- the dues that a state may have
abbrev pub all_dues : TableView → List Due
all_dues t = flat_map needs_of need_conds ++ flat_map (bars_from t) t.rules

-- ---- States and cells

-- the states with one of these contexts and no more dues than there are
abbrev pub all_states : TableView → List DuesState
all_states t = flat_map (λ here. map (state_in here) (lists_up_to (all_dues t) (length (all_dues t)))) (all_contexts t)

-- the cells of a step that takes the form in a context
abbrev pub cells_in : TableView → Context → CaseForm → List ℕ
cells_in t here f = indicators_before t here f.run f.reads ++ f.cells

-- the cells that a step may give
abbrev pub all_cells : TableView → List (List ℕ)
all_cells t = flat_map (λ (here : Context). map (cells_in t here) (forms t here.classes)) (all_contexts t)

-- the leads that a pair may have: what the cells of one step end with
abbrev pub all_leads : TableView → List (List ℕ)
all_leads t = flat_map endings (all_cells t)
