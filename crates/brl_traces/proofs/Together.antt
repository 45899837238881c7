-- The traces of two texts diverge where they begin with the same steps and go on with two others.
use Rattle.std.proofs.Common.{◌≡◌, ℕ, suc, IsTrue, List, ◌∷◌, Some, take, refl}
use Rattle.std.specs.Prelude.{slice_get}
use Rattle.std.specs.List.{AllZip}
use Rattle.brl_forward.specs.Trace.{trace_of}
use Rattle.brl_forward.specs.declared.steps.Traced.{Traced}
use Rattle.brl_pairs.specs.Divergence.{has_rules}
use Rattle.brl_rules.specs.TableView.{TableView}
use Rattle.brl_traces.specs.Traces.{IsSameStep, TracesDivergeAt}

module _ (t : TableView) (left right : List ℕ) where
  -- two lists of steps begin with the same ones, and go on with two different ones that are so
  pub record Diverge (xs ys : List Traced) (AreSo : Traced → Traced → Type 0) : Type 0 where
    pub place : ℕ
    pub one : Traced
    pub other : Traced
    pub before : AllZip (IsSameStep t left right) (take place xs) (take place ys)
    pub one_there : slice_get xs place ≡ Some one
    pub other_there : slice_get ys place ≡ Some other
    pub differ : IsSameStep t left right one other → ⊥
    pub are_so : AreSo one other

  -- they differ at the first step
  pub at_once : (AreSo : Traced → Traced → Type 0) (x y : Traced) (xs ys : List Traced) → (IsSameStep t left right x y → ⊥) → AreSo x y → Diverge (x ∷ xs) (y ∷ ys) AreSo
  at_once AreSo x y xs ys differ are_so =
      record { place = 0; one = x; other = y; before = tt; one_there = refl; other_there = refl; differ = differ; are_so = are_so }

  -- one more step before where they differ
  pub one_later : (AreSo : Traced → Traced → Type 0) (x y : Traced) (xs ys : List Traced) → IsSameStep t left right x y → Diverge xs ys AreSo → Diverge (x ∷ xs) (y ∷ ys) AreSo
  one_later AreSo x y xs ys same rest = record {
    place = suc rest.place;
    one = rest.one;
    other = rest.other;
    before = (same, rest.before);
    one_there = rest.one_there;
    other_there = rest.other_there;
    differ = rest.differ;
    are_so = rest.are_so;
  }

pub diverging : (t : TableView) (rules : List (ℕ × ℕ)) (left right : List ℕ) (place : ℕ) (one other : Traced) → AllZip (IsSameStep t left right) (take place (trace_of t left)) (take place (trace_of t right))
    → slice_get (trace_of t left) place ≡ Some one → slice_get (trace_of t right) place ≡ Some other → (IsSameStep t left right one other → ⊥) → IsTrue (has_rules rules one.rule other.rule) → TracesDivergeAt t rules left right
diverging t rules left right place one other before one_there other_there differ pair =
    record { place = place; one = one; other = other; before = before; one_there = one_there; other_there = other_there; differ = differ; pair = pair }
