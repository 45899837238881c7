-- Texts whose traces are the same but for steps that may be exchanged, to their ends or up to a
-- place where they diverge at one of some pairs of rules. The project's own choice.
use Rattle.std.specs.Prelude.{◌≡◌, ◌⊎◌, ℕ, IsTrue, List, Some, slice_get, take}
use Rattle.std.specs.List.{AllZip}
use Rattle.brl_forward.specs.Trace.{trace_of}
use Rattle.brl_forward.specs.declared.steps.Traced.{Traced}
use Rattle.brl_pairs.specs.Divergence.{has_rules}
use Rattle.brl_rules.specs.TableView.{TableView}
use Rattle.brl_rules.specs.Text.{is_text}
use Rattle.brl_rules.specs.Translation.{translation}
use Rattle.brl_traces.specs.Traces.{IsSameStep}
use Rattle.brl_without.specs.LeftOut.{uses_none}

-- two steps are exchanged: their rules are one of these pairs, and they have the same cells
pub record AreExchanged (exchanged : List (ℕ × ℕ)) (x y : Traced) : Type 0 where
  pub rules : IsTrue (has_rules exchanged x.rule y.rule)
  pub cells : x.cells ≡ y.cells

-- two steps of two texts are the same, or exchanged
abbrev pub IsAlikeStep : TableView → List (ℕ × ℕ) → List ℕ → List ℕ → Traced → Traced → Type 0
IsAlikeStep t exchanged left right x y = IsSameStep t left right x y ⊎ AreExchanged exchanged x y

-- the traces of two texts are the same but for exchanges, step by step
abbrev pub TracesAreAlike : TableView → List (ℕ × ℕ) → List ℕ → List ℕ → Type 0
TracesAreAlike t exchanged left right = AllZip (IsAlikeStep t exchanged left right) (trace_of t left) (trace_of t right)

-- The traces of two texts begin with steps that are the same but for exchanges, and go on with two
-- different ones of one of these pairs of rules.
pub record TracesDivergeAfter (t : TableView) (exchanged rules : List (ℕ × ℕ)) (left right : List ℕ) : Type 0 where
  pub place : ℕ
  pub one : Traced
  pub other : Traced
  pub before : AllZip (IsAlikeStep t exchanged left right) (take place (trace_of t left)) (take place (trace_of t right))
  pub one_there : slice_get (trace_of t left) place ≡ Some one
  pub other_there : slice_get (trace_of t right) place ≡ Some other
  pub differ : IsSameStep t left right one other → ⊥
  pub pair : IsTrue (has_rules rules one.rule other.rule)

-- the traces of two texts are the same but for exchanges, to their ends or up to such a place
abbrev pub TracesAgreeBut : TableView → List (ℕ × ℕ) → List (ℕ × ℕ) → List ℕ → List ℕ → Type 0
TracesAgreeBut t exchanged rules left right = TracesAreAlike t exchanged left right ⊎ TracesDivergeAfter t exchanged rules left right

-- any two texts of the table, of any length, that use none of some characters and are translated to
-- the same cells have such traces
abbrev pub TextsAgreeBut : List ℕ → List (ℕ × ℕ) → List (ℕ × ℕ) → TableView → Type 0
TextsAgreeBut left_out exchanged rules t =
    (left right : List ℕ) → IsTrue (is_text t left) → IsTrue (is_text t right) → IsTrue (uses_none left_out left) → IsTrue (uses_none left_out right)
    → translation t left ≡ translation t right → TracesAgreeBut t exchanged rules left right
