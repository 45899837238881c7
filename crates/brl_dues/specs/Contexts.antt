-- The steps of a state, from those of its base: the state with what steps ask of its context, and
-- no dues. So states that differ in their dues share their steps, but for those that a bar changes.
-- The project's own choice.
use Rattle.std.specs.Prelude.{◌≡◌, ◌↔◌, ◌⊎◌, ℕ, Bool, true, false, not, ◌||◌, nat_eq, List, [], ◌∷◌, ◌++◌, Option, Some, None, filter, option_map, if◌then◌else◌}
use Rattle.std.specs.List.Sorted.{IsStrictlySortedBy}
use Rattle.std.specs.List.{Contains, flat_map, list_all, list_any, starts_with}
use Rattle.brl_pairs.specs.Runs.{IsListed}
use Rattle.brl_pairs.specs.declared.step.Step.{Step}
use Rattle.brl_rules.specs.declared.class.Class.{Class}
use Rattle.brl_rules.specs.Places.{holds}
use Rattle.brl_rules.specs.TableView.{TableView}
use Rattle.brl_rules.specs.Text.{classes_at}
use Rattle.brl_states.specs.contracts.due.DuePartialEq.TheImpl.{eq-value}
use Rattle.brl_states.specs.declared.due.Due.{Due}
use Rattle.brl_states.specs.declared.due.Due.TheVariants.{Need, Bar}
use Rattle.brl_states.specs.declared.dues_state.DuesState.{DuesState}
use Rattle.brl_states.specs.DuesContext.{context_of, state_in}
use Rattle.brl_states.specs.Order.{due_cmp, in_order}
use Rattle.brl_dues.specs.Letters.{left_past}
use Rattle.brl_dues.specs.Parts.{asked_context}
use Rattle.brl_dues.specs.Steps.{dues_steps, with_steps}

-- the base of a state: what steps ask of its context, and no dues
abbrev pub base_of : TableView → DuesState → DuesState
base_of t s = state_in (asked_context t (context_of s)) []

-- ---- Gates

-- the gate of a step: the classes of the first character that it reads
abbrev pub gate_of : TableView → Step DuesState → Class
gate_of t x = classes_at t x.reads 0

-- whether a due lets a character of these classes in; a bar always does
abbrev pub lets_through : Class → Due → Bool
lets_through gate (Need cond) = holds cond gate
lets_through gate (Bar chars cond) = true

-- whether a state opens a gate: each of its needs does
abbrev pub opens : DuesState → Class → Bool
opens s gate = list_all (lets_through gate) s.dues

-- ---- Bars

-- whether a due is a bar
abbrev pub is_bar : Due → Bool
is_bar (Need cond) = false
is_bar (Bar chars cond) = true

-- the bars of a state
abbrev pub bars : DuesState → List Due
bars s = filter is_bar s.dues

-- whether a bar meets what a step reads: its characters begin it, or it begins them
abbrev pub meets : List ℕ → Due → Bool
meets reads (Need cond) = false
meets reads (Bar chars cond) = starts_with nat_eq reads chars || starts_with nat_eq chars reads

-- the dues that aren't among these others
abbrev pub new_to : List Due → List Due → List Due
new_to owed dues = filter (λ due. not (list_any (eq-value.it due) owed)) dues

-- what these bars leave past a step, but for what the step owes anyway; none where one is broken
abbrev pub more : TableView → List Due → Step DuesState → Option (List Due)
more t bars x = option_map (new_to x.next.dues) (left_past t x.reads bars)

-- ---- Steps

-- the step with more dues after it, in order and each once
abbrev pub owing : Step DuesState → List Due → Step DuesState
owing x dues = record x { next = record x.next { dues = in_order (x.next.dues ++ dues) } }

-- the step with these dues more after it, or none
abbrev pub owing_if : Step DuesState → Option (List Due) → List (Step DuesState)
owing_if x None = []
owing_if x (Some dues) = owing x dues ∷ []

-- the step that a state has of a step of its base: none where it doesn't open the gate, or a bar is
-- broken
abbrev pub step_past : TableView → DuesState → Step DuesState → List (Step DuesState)
step_past t s x = if opens s (gate_of t x) then owing_if x (more t (bars s) x) else []

-- the steps that a state has of those of its base, in order; of two that are the same the first
abbrev pub steps_past : TableView → DuesState → List (Step DuesState)
steps_past t s = with_steps [] (flat_map (step_past t s) (dues_steps t (base_of t s)))

-- a step of a state is what it has of a step of its base
pub record IsPast (t : TableView) (s : DuesState) (x : Step DuesState) : Type 0 where
  pub from : Step DuesState
  pub listed : IsListed (dues_steps t (base_of t s)) from
  pub becomes : step_past t s from ≡ x ∷ []

-- ---- Dues of both

-- these are the dues of two lists, ascending without repeats
pub record AreOfBoth (one other both : List Due) : Type 0 where
  pub ascend : IsStrictlySortedBy due_cmp both
  pub each : (due : Due) → Contains both due ↔ (Contains one due ⊎ Contains other due)
