-- What the test of two traces says of where they diverge.
use Rattle.std.proofs.Common.{◌≡◌, ◌∙◌, ℕ, zero, suc, Bool, ◌&&◌, cond, true, false, IsTrue, List, [], ◌∷◌, Some, take, refl, sym, ap, subst₂, eqb-true, eq-eqb}
use Rattle.std.specs.Bool.{beq}
use Rattle.std.specs.Prelude.{◌||◌, ◌==◌, ◌↔◌, nat_eq, slice_get}
use Rattle.std.specs.Cmp.{booleans_Decides, first_so, second_so}
use Rattle.std.specs.Cmp.Lexicographic.{bytes_decides, pointwise}
use Rattle.std.specs.List.{AllZip}
use Rattle.std.proofs.lemmas.Bool.{false_from_ne_true}
use Rattle.brl_forward.specs.Trace.{trace_of}
use Rattle.brl_forward.specs.declared.steps.Traced.{Traced}
use Rattle.brl_pairs.specs.Divergence.{are_rules}
use Rattle.brl_rules.specs.TableView.{TableView}
use Rattle.brl_search.specs.Smaller.{are_same_steps, diverge_at}
use Rattle.brl_traces.specs.Traces.{IsSameStep, TracesDivergeAt, begins_in_caps_run, taken}
use Rattle.brl_traces.proofs.Together.{Diverge, at_once, diverging, one_later}

all-true : (b c d e : Bool) → b ≡ true → c ≡ true → d ≡ true → e ≡ true → (b && c && d && e) ≡ true
all-true b c d e f g h k = rw (f, g, h, k) refl

module _ (t : TableView) (left right : List ℕ) where
  -- ---- Steps

  same-from_test : (x y : Traced) → are_same_steps t left right x y ≡ true → IsSameStep t left right x y
  same-from_test x y h =
      let rule = x.rule == y.rule in
      let cells = pointwise nat_eq x.cells y.cells in
      let reads = pointwise nat_eq (taken left x) (taken right y) in
      let run = beq (begins_in_caps_run t left x) (begins_in_caps_run t right y) in
      let three = first_so ((rule && cells) && reads) run h in
      let two = first_so (rule && cells) reads three in
      record {
        rule = eqb-true x.rule y.rule (first_so rule cells two);
        reads = (bytes_decides (taken left x) (taken right y)).0 (second_so (rule && cells) reads three);
        cells = (bytes_decides x.cells y.cells).0 (second_so rule cells two);
        run = (booleans_Decides (begins_in_caps_run t left x) (begins_in_caps_run t right y)).0 (second_so ((rule && cells) && reads) run h);
      }

  test-from_same : (x y : Traced) → IsSameStep t left right x y → are_same_steps t left right x y ≡ true
  test-from_same x y h =
      all-true (x.rule == y.rule) (pointwise nat_eq x.cells y.cells) (pointwise nat_eq (taken left x) (taken right y)) (beq (begins_in_caps_run t left x) (begins_in_caps_run t right y))
      (eq-eqb x.rule y.rule h.rule) ((bytes_decides x.cells y.cells).1 h.cells) ((bytes_decides (taken left x) (taken right y)).1 h.reads)
      ((booleans_Decides (begins_in_caps_run t left x) (begins_in_caps_run t right y)).1 h.run)

  -- ---- Traces

  -- the first steps that differ are those of this pair of rules
  abbrev AreOf : ℕ × ℕ → Traced → Traced → Type 0
  AreOf pair one other = are_rules one.rule other.rule pair ≡ true

  by-first : (pair : ℕ × ℕ) (x y : Traced) (xs ys : List Traced) (b : Bool) → are_same_steps t left right x y ≡ b
      → cond b (diverge_at t left right pair xs ys) (are_rules x.rule y.rule pair) ≡ true → (diverge_at t left right pair xs ys ≡ true → Diverge t left right xs ys (AreOf pair))
      → Diverge t left right (x ∷ xs) (y ∷ ys) (AreOf pair)
  by-first pair x y xs ys true test h more = one_later t left right (AreOf pair) x y xs ys (same-from_test x y test) (more h)
  by-first pair x y xs ys false test h more = at_once t left right (AreOf pair) x y xs ys (λ same. (let yes = test-from_same x y same in cc)) h

  diverge-from_test : (pair : ℕ × ℕ) (xs ys : List Traced) → diverge_at t left right pair xs ys ≡ true → Diverge t left right xs ys (AreOf pair)
  diverge-from_test pair [] ys h = cc
  diverge-from_test pair (x ∷ xs) [] h = cc
  diverge-from_test pair (x ∷ xs) (y ∷ ys) h = by-first pair x y xs ys (are_same_steps t left right x y) refl h (diverge-from_test pair xs ys)

  test-from_diverge : (pair : ℕ × ℕ) (xs ys : List Traced) (place : ℕ) (one other : Traced) → AllZip (IsSameStep t left right) (take place xs) (take place ys)
      → slice_get xs place ≡ Some one → slice_get ys place ≡ Some other → (IsSameStep t left right one other → ⊥) → are_rules one.rule other.rule pair ≡ true → diverge_at t left right pair xs ys ≡ true
  test-from_diverge pair [] ys place one other before there other_there differ rules = cc
  test-from_diverge pair (x ∷ xs) [] place one other before there other_there differ rules = cc
  test-from_diverge pair (x ∷ xs) (y ∷ ys) zero one other before there other_there differ rules =
      let first : x ≡ one = cc in
      let second : y ≡ other = cc in
      let differs : are_same_steps t left right x y ≡ false = false_from_ne_true (are_same_steps t left right x y) (λ yes. differ (subst₂ (IsSameStep t left right) first second (same-from_test x y yes))) in
      rw differs (ap (λ (s : Traced). are_rules s.rule y.rule pair) first ∙ ap (λ (s : Traced). are_rules one.rule s.rule pair) second ∙ rules)
  test-from_diverge pair (x ∷ xs) (y ∷ ys) (suc place) one other before there other_there differ rules =
      let rest = test-from_diverge pair xs ys place one other before.1 there other_there differ rules in
      let same = test-from_same x y before.0 in
      rw same rest

-- no step is left of the right trace
pub none-right : (t : TableView) (left right : List ℕ) (pair : ℕ × ℕ) (xs : List Traced) → diverge_at t left right pair xs [] ≡ false
none-right t left right pair [] = refl
none-right t left right pair (x ∷ xs) = refl

-- ---- Texts

one-pair : (b : Bool) → (b || false) ≡ b
one-pair true = refl
one-pair false = refl

-- the test of the traces of two texts says whether they diverge at the pair of rules
pub traces-diverge : (t : TableView) (pair : ℕ × ℕ) (left right : List ℕ) → IsTrue (diverge_at t left right pair (trace_of t left) (trace_of t right)) ↔ TracesDivergeAt t (pair ∷ []) left right
traces-diverge t pair left right = (
  λ test.
      (let at = diverge-from_test t left right pair (trace_of t left) (trace_of t right) test in
      diverging t (pair ∷ []) left right at.place at.one at.other at.before at.one_there at.other_there at.differ (one-pair (are_rules at.one.rule at.other.rule pair) ∙ at.are_so)),
  λ at.
      test-from_diverge t left right pair (trace_of t left) (trace_of t right) at.place at.one at.other at.before at.one_there at.other_there at.differ
      (sym (one-pair (are_rules at.one.rule at.other.rule pair)) ∙ at.pair),
)
