-- The paths of the dues machine and the traces of texts, and where the traces of clashes diverge.
-- The project's own choice.
use Rattle.std.specs.Prelude.{◌≡◌, ◌⊎◌, ℕ, Bool, IsTrue, List, Some, drop, length, slice_get, take}
use Rattle.std.specs.List.{AllZip}
use Rattle.brl_dues.specs.Steps.{dues_machine}
use Rattle.brl_forward.specs.Trace.{trace_of}
use Rattle.brl_forward.specs.declared.steps.Traced.{Traced}
use Rattle.brl_pairs.specs.Divergence.{DivergeAt, has_rules}
use Rattle.brl_pairs.specs.Runs.{IsPath, reads_of}
use Rattle.brl_pairs.specs.declared.step.Step.{Step}
use Rattle.brl_rules.specs.TableView.{TableView}
use Rattle.brl_rules.specs.Position.{in_caps_run_at}
use Rattle.brl_rules.specs.Text.{is_text}
use Rattle.brl_rules.specs.Translation.{translation}
use Rattle.brl_states.specs.declared.dues_state.DuesState.{DuesState}
use Rattle.brl_without.specs.LeftOut.{uses_none}

-- ---- Steps of texts

-- the characters of a text that one of its steps takes
abbrev pub taken : List ℕ → Traced → List ℕ
taken text x = take x.length (drop x.start text)

-- whether the characters that a step of a text takes begin in a run of capitals
abbrev pub begins_in_caps_run : TableView → List ℕ → Traced → Bool
begins_in_caps_run t text x = in_caps_run_at t text x.start

-- A step of one text and one of another are the same: they take the same rule, for the same
-- characters, with the same cells, and both begin in a run of capitals, or neither does.
pub record IsSameStep (t : TableView) (left right : List ℕ) (x y : Traced) : Type 0 where
  pub rule : x.rule ≡ y.rule
  pub reads : taken left x ≡ taken right y
  pub cells : x.cells ≡ y.cells
  pub run : begins_in_caps_run t left x ≡ begins_in_caps_run t right y

-- ---- Paths and traces

-- a step of a path and one of the trace of a text take the same rule, with as many characters,
-- which are the same, and the same cells
pub record IsTraced (text : List ℕ) (x : Step DuesState) (y : Traced) : Type 0 where
  pub rule : x.rule ≡ y.rule
  pub length : length x.reads ≡ y.length
  pub reads : x.reads ≡ taken text y
  pub cells : x.cells ≡ y.cells

-- the steps of each path from the start to a final state are, one by one, those of the trace of
-- what it reads
abbrev pub PathsAreTraces : TableView → Type 0
PathsAreTraces t =
    (path : List (Step DuesState)) → IsPath (dues_machine t) (dues_machine t).start path → AllZip (IsTraced (reads_of path)) path (trace_of t (reads_of path))

-- ---- Where traces diverge

-- The traces of two texts begin with the same steps, and go on with two different ones of one of
-- these pairs of rules.
pub record TracesDivergeAt (t : TableView) (rules : List (ℕ × ℕ)) (left right : List ℕ) : Type 0 where
  pub place : ℕ
  pub one : Traced
  pub other : Traced
  pub before : AllZip (IsSameStep t left right) (take place (trace_of t left)) (take place (trace_of t right))
  pub one_there : slice_get (trace_of t left) place ≡ Some one
  pub other_there : slice_get (trace_of t right) place ≡ Some other
  pub differ : IsSameStep t left right one other → ⊥
  pub pair : IsTrue (has_rules rules one.rule other.rule)

-- where two paths from the start to final states diverge at one of some pairs of rules, the traces
-- of what they read do
abbrev pub TracesDivergeAsPaths : TableView → Type 0
TracesDivergeAsPaths t =
    (rules : List (ℕ × ℕ)) (first second : List (Step DuesState)) → IsPath (dues_machine t) (dues_machine t).start first → IsPath (dues_machine t) (dues_machine t).start second
    → DivergeAt rules first second → TracesDivergeAt t rules (reads_of first) (reads_of second)

-- two texts of the table that are translated to the same cells are equal, or their traces diverge
-- at one of these pairs of rules
abbrev pub ClashesDivergeAt : List (ℕ × ℕ) → TableView → Type 0
ClashesDivergeAt rules t =
    (left right : List ℕ) → IsTrue (is_text t left) → IsTrue (is_text t right) → translation t left ≡ translation t right
    → (left ≡ right) ⊎ TracesDivergeAt t rules left right

-- two texts with the same cells that use none of some characters are equal, or their traces diverge
-- at one of these pairs of rules
abbrev pub ClashesDivergeAtWithout : List ℕ → List (ℕ × ℕ) → TableView → Type 0
ClashesDivergeAtWithout left_out rules t =
    (left right : List ℕ) → IsTrue (is_text t left) → IsTrue (is_text t right) → IsTrue (uses_none left_out left) → IsTrue (uses_none left_out right)
    → translation t left ≡ translation t right → (left ≡ right) ⊎ TracesDivergeAt t rules left right
