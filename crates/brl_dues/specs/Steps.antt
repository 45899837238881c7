-- The dues machine of a table: its steps, each characterized by itself and listed. The machine is
-- this project's own choice; the rule that is chosen, the indicators and the context are those of
-- the table (the manual's sections "Translation Opcodes" and "Braille Indicator Opcodes").
use Rattle.std.specs.Prelude.{◌≡◌, Bool, ◌&&◌, ◌==◌, nat_eq, List, [], ◌∷◌, ◌++◌, map, Option, Some, None, if◌then◌else◌}
use Rattle.std.specs.Cmp.Lexicographic.{pointwise}
use Rattle.std.specs.List.{flat_map, list_all, list_any}
use Rattle.brl_pairs.specs.Runs.{Behaviour}
use Rattle.brl_pairs.specs.declared.step.Step.{Step}
use Rattle.brl_rules.specs.declared.class.Class.{Class}
use Rattle.brl_rules.specs.Indicators.{indicators_before}
use Rattle.brl_rules.specs.TableView.{TableView}
use Rattle.brl_rules.specs.Text.{at_start, context_after_all, is_text}
use Rattle.brl_rules.specs.Translation.{translation}
use Rattle.brl_dues.specs.declared.carry.Carried.{Carried}
use Rattle.brl_states.specs.declared.due.Due.{Due}
use Rattle.brl_states.specs.DuesContext.{context_of, state_in}
use Rattle.brl_states.specs.declared.dues_state.DuesState.{DuesState}
use Rattle.brl_dues.specs.Carry.{bars_to, carry, gathered, need}
use Rattle.brl_dues.specs.Due.{met_by_space}
use Rattle.brl_dues.specs.CaseForm.{CaseForm, IsForm, groups}
use Rattle.brl_states.specs.contracts.dues_state.DuesStatePartialEq.TheImpl.{eq-value}

-- what a step of the form owes: the needs of its after-condition and of what must follow so that it
-- begins in a run of capitals, or out of one, and the bars of each rule that is ranked above it
abbrev pub owed : TableView → Class → CaseForm → List Carried
owed t before f = need f.after ∷ need f.next ∷ flat_map (bars_to t before f.run f.reads) f.above

-- the dues after the step: what is left of the old dues after what it reads, and what it owes; none
-- where one of these is broken
abbrev pub next_dues : TableView → DuesState → CaseForm → Option (List Due)
next_dues t s f = gathered (map (carry t f.reads) s.dues ++ owed t s.before f)

-- the step of a form, with the dues after it
abbrev pub step_of : TableView → DuesState → CaseForm → List Due → Step DuesState
step_of t s f dues =
    let behind = context_after_all t (context_of s) f.reads in
    record {
      rule = f.number;
      reads = f.reads;
      cells = indicators_before t (context_of s) f.run f.reads ++ f.cells;
      next = state_in behind dues;
    }

-- ---- Each by itself

-- a step from a state takes a form, breaks no due, and leaves the dues after it
pub record IsStep (t : TableView) (s : DuesState) (x : Step DuesState) : Type 0 where
  pub form : CaseForm
  pub is_form : IsForm t s.before form
  pub dues : List Due
  pub left : next_dues t s form ≡ Some dues
  pub step : x ≡ step_of t s form dues

-- ---- Listed

-- the step with these dues after it, or none
abbrev pub step_if : TableView → DuesState → CaseForm → Option (List Due) → List (Step DuesState)
step_if t s f None = []
step_if t s f (Some dues) = step_of t s f dues ∷ []

-- the step of a form, if it breaks no due
abbrev pub steps_of : TableView → DuesState → CaseForm → List (Step DuesState)
steps_of t s f = step_if t s f (next_dues t s f)

-- whether two steps are the same
abbrev pub is_same_step : Step DuesState → Step DuesState → Bool
is_same_step x y =
    (x.rule == y.rule) && pointwise nat_eq x.reads y.reads && pointwise nat_eq x.cells y.cells && eq-value.it x.next y.next

-- steps with one more, unless it is one of them
abbrev pub with_step : List (Step DuesState) → Step DuesState → List (Step DuesState)
with_step steps x = if list_any (is_same_step x) steps then steps else steps ++ x ∷ []

-- steps with more of them, each once
abbrev pub with_steps : List (Step DuesState) → List (Step DuesState) → List (Step DuesState)
with_steps steps [] = steps
with_steps steps (x ∷ more) = with_steps (with_step steps x) more

-- the steps of a group of forms, each once: two forms that differ by the run of capitals alone may
-- have the same step
abbrev pub group_steps : TableView → DuesState → List CaseForm → List (Step DuesState)
group_steps t s group = with_steps [] (flat_map (steps_of t s) group)

-- the steps that the machine lists from a state: the forms by rank, those of one rule by the
-- numbers of their first characters
unfoldable pub dues_steps : TableView → DuesState → List (Step DuesState)
dues_steps t s = flat_map (group_steps t s) (groups t s.before)

-- ---- The machine

-- the state before any character: class space before it, no numeric mode, and no dues
abbrev pub first_state : DuesState
first_state = state_in at_start []

-- whether a state is final: class space meets every need
abbrev pub ends : DuesState → Bool
ends s = list_all met_by_space s.dues

-- the dues machine, whose texts and translation are the table's
abbrev pub dues_machine : TableView → Behaviour DuesState
dues_machine t = record {
  start = first_state;
  steps = dues_steps t;
  ends = ends;
  is_text = is_text t;
  translation = translation t;
}
