-- The case forms in which the rules of a table, in rank, may be taken after a character, and then
-- the own definitions. A form is characterized by itself, and all are listed. The project's own
-- choice.
use Rattle.std.specs.Prelude.{ℕ, ◌≡◌, ◌==◌, Bool, true, false, IsTrue, List, [], ◌∷◌, ◌++◌, ◌⊎◌, length, map, take, slice_get, Option, Some, None, if◌then◌else◌}
use Rattle.std.specs.List.{flat_map, list_all}
use Rattle.brl_rules.specs.declared.class.Class.{Class}
use Rattle.brl_rules.specs.declared.place.Cond.{Cond}
use Rattle.brl_rules.specs.declared.place.Cond.TheVariants.{Any}
use Rattle.brl_rules.specs.declared.rule.Rule.{Rule}
use Rattle.brl_rules.specs.Choice.{own}
use Rattle.brl_rules.specs.Places.{holds, before_of, after_of}
use Rattle.brl_rules.specs.TableView.{TableView}
use Rattle.brl_rules.specs.Text.{fold_of, is_defined}
use Rattle.brl_dues.specs.Capitals.{choices, further, is_upper, letters}

-- a rule, or an own definition, as a step may take it: its number, the characters that it reads,
-- whether they begin in a run of capitals, what must follow them so that this is so, its condition
-- on the character after them, its cells without indicators, and the rules that are ranked above it
pub record CaseForm : Type 0 where
  pub number : ℕ
  pub reads : List ℕ
  pub run : Bool
  pub next : Cond
  pub after : Cond
  pub cells : List ℕ
  pub above : List Rule

-- ---- Each by itself

-- the characters of a rule that reads these: the fold of the first, and in a run of capitals the
-- folds of the others, out of one the others themselves
abbrev pub folded : TableView → Bool → ℕ → List ℕ → List ℕ
folded t run c others = fold_of t c ∷ (if run then map (fold_of t) others else others)

-- in a run of capitals, a rule's other characters are capitals
abbrev pub may_read : TableView → Bool → List ℕ → Bool
may_read t run others = if run then list_all (is_upper t) others else true

-- a rule whose before-condition holds: in a run of capitals it reads capitals whose folds are its
-- characters; out of one, a character of the table that folds to its first, and its others
pub record IsRuleForm (t : TableView) (before : Class) (f : CaseForm) : Type 0 where
  pub rule : Rule
  pub there : slice_get t.rules f.number ≡ Some rule
  pub before_holds : IsTrue (holds (before_of rule.place) before)
  pub character : ℕ
  pub others : List ℕ
  pub defined : IsTrue (is_defined t character)
  pub may : IsTrue (may_read t f.run others)
  pub chars : rule.chars ≡ folded t f.run character others
  pub reads : f.reads ≡ character ∷ others
  pub next : further t before f.run (character ∷ others) ≡ Some f.next
  pub after : f.after ≡ after_of rule.place before
  pub cells : f.cells ≡ rule.cells
  pub above : f.above ≡ take f.number t.rules

-- the own definition of a character of the table
pub record IsOwnForm (t : TableView) (before : Class) (f : CaseForm) : Type 0 where
  pub character : ℕ
  pub defined : IsTrue (is_defined t character)
  pub number : f.number ≡ (own t (character ∷ [])).number
  pub reads : f.reads ≡ character ∷ []
  pub next : further t before f.run (character ∷ []) ≡ Some f.next
  pub after : f.after ≡ Any
  pub cells : f.cells ≡ (own t (character ∷ [])).cells
  pub above : f.above ≡ t.rules

-- the table has this form after a character of these classes
abbrev pub IsForm : TableView → Class → CaseForm → Type 0
IsForm t before f = IsRuleForm t before f ⊎ IsOwnForm t before f

-- ---- Listed

-- the form with this further condition, if there is one
abbrev pub form_if : (Cond → CaseForm) → Option Cond → List CaseForm
form_if form None = []
form_if form (Some next) = form next ∷ []

-- the form of a rule that reads these characters, in a run of capitals or out of one
abbrev pub rule_form : Class → List Rule → Rule → Bool → List ℕ → Cond → CaseForm
rule_form before above r run reads next = record {
  number = length above;
  reads = reads;
  run = run;
  next = next;
  after = after_of r.place before;
  cells = r.cells;
  above = above;
}

-- the form of a rule that reads these characters, if they can begin there
abbrev pub rule_forms : TableView → Class → List Rule → Rule → Bool → List ℕ → List CaseForm
rule_forms t before above r run reads = form_if (rule_form before above r run reads) (further t before run reads)

-- the forms of a rule with this character in place of its first: in a run of capitals, one for each
-- choice of capitals for its others, and then the one out of a run
abbrev pub cased : TableView → Class → List Rule → Rule → List ℕ → ℕ → List CaseForm
cased t before above r others c =
    flat_map (λ chosen. rule_forms t before above r true (c ∷ chosen)) (choices t others) ++ rule_forms t before above r false (c ∷ others)

-- the forms of a rule with this character in place of its first, where it folds to that
abbrev pub cased_if : TableView → Class → List Rule → Rule → List ℕ → ℕ → List CaseForm
cased_if t before above r [] c = []
cased_if t before above r (first ∷ others) c = if first == fold_of t c then cased t before above r others c else []

-- the forms of a rule, above which those others are ranked, by the characters that they begin with
abbrev pub groups_of : TableView → Class → List Rule → Rule → List (List CaseForm)
groups_of t before above r = if holds (before_of r.place) before then map (cased_if t before above r r.chars) (letters t) else []

-- the forms of these rules, above which those others are ranked
abbrev pub groups_from : TableView → Class → List Rule → List Rule → List (List CaseForm)
groups_from t before above [] = []
groups_from t before above (r ∷ rules) = groups_of t before above r ++ groups_from t before (above ++ r ∷ []) rules

-- the form of a character's own definition, in a run of capitals or out of one
abbrev pub own_form : TableView → ℕ → Bool → Cond → CaseForm
own_form t c run next = record {
  number = (own t (c ∷ [])).number;
  reads = c ∷ [];
  run = run;
  next = next;
  after = Any;
  cells = (own t (c ∷ [])).cells;
  above = t.rules;
}

-- the forms of a character's own definition
abbrev pub own_forms : TableView → Class → ℕ → List CaseForm
own_forms t before c = form_if (own_form t c true) (further t before true (c ∷ [])) ++ form_if (own_form t c false) (further t before false (c ∷ []))

-- the forms of a table after a character of these classes: a group for each rule and each character
-- that its forms begin with, and one for each own definition
abbrev pub groups : TableView → Class → List (List CaseForm)
groups t before = groups_from t before [] t.rules ++ map (own_forms t before) (letters t)

-- all forms of a table after a character of these classes
abbrev pub forms : TableView → Class → List CaseForm
forms t before = flat_map (λ group. group) (groups t before)
