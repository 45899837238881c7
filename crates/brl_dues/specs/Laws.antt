-- The laws of the dues machine, in the words of its definitions. The project's own choice.
use Rattle.std.specs.Prelude.{◌≡◌, ◌↔◌, ◌⊎◌, ℕ, IsTrue, List, [], ◌++◌}
use Rattle.std.specs.List.{Contains}
use Rattle.std.specs.List.Sorted.{IsStrictlySortedBy}
use Rattle.brl_pairs.specs.Runs.{IsListed}
use Rattle.brl_pairs.specs.declared.step.Step.{Step}
use Rattle.brl_rules.specs.Choice.{chosen}
use Rattle.brl_rules.specs.TableView.{TableView}
use Rattle.brl_dues.specs.declared.carry.Carried.{Carried}
use Rattle.brl_dues.specs.declared.carry.Carried.TheVariants.{Broken, Left}
use Rattle.brl_states.specs.declared.due.Due.{Due}
use Rattle.brl_states.specs.declared.dues_state.DuesState.{DuesState}
use Rattle.brl_dues.specs.Due.{dues_met}
use Rattle.brl_states.specs.Order.{due_cmp}
use Rattle.brl_dues.specs.Steps.{dues_steps, ends}

-- the rest continues by this step: it begins with what the step reads, and what follows meets the
-- dues of the next state
pub record GoesOnBy (t : TableView) (s : DuesState) (rest : List ℕ) (x : Step DuesState) : Type 0 where
  pub listed : IsListed (dues_steps t s) x
  pub left : List ℕ
  pub begins : rest ≡ x.reads ++ left
  pub met : IsTrue (dues_met t left x.next.dues)

-- the rest is empty and the state is final, or the rest continues by a step
abbrev pub GoesOn : TableView → DuesState → List ℕ → Type 0
GoesOn t s rest = ((rest ≡ []) × IsTrue (ends s)) ⊎ ((x : Step DuesState) × GoesOnBy t s rest x)

-- The law of one step: a rest meets a state's dues exactly where it is empty and the state is
-- final, or it continues by a step. Both never hold. The step is the only one, and its rule is the
-- one that the table chooses there.
pub record OneStep (t : TableView) (s : DuesState) (rest : List ℕ) : Type 0 where
  pub goes_on : IsTrue (dues_met t rest s.dues) ↔ GoesOn t s rest
  pub never_both : (x : Step DuesState) → GoesOnBy t s rest x → rest ≡ [] → ⊥
  pub only_one : (x y : Step DuesState) → GoesOnBy t s rest x → GoesOnBy t s rest y → x ≡ y
  pub chosen : (x : Step DuesState) → GoesOnBy t s rest x → x.rule ≡ (chosen t s.before rest).number

-- the dues after a step: nothing is broken, and they are the dues that are left, ascending without
-- repeats
pub record AreGathered (carried : List Carried) (dues : List Due) : Type 0 where
  pub whole : Contains carried Broken → ⊥
  pub ascend : IsStrictlySortedBy due_cmp dues
  pub each : (due : Due) → Contains dues due ↔ Contains carried (Left due)
