-- The rules that texts use are those that paths of the dues machine take.
use Rattle.std.proofs.Common.{◌≡◌, ℕ, zero, suc, ◌+◌, ◌<◌, ◌≤◌, Bool, true, false, IsTrue, List, [], ◌∷◌, ◌++◌, inl, inr, ◌⊎◌, ◌↔◌, Some, Contains, length, refl, sym, ap, ◌∙◌, subst, arith, slice_get}
use Rattle.std.specs.List.{AllZip}
use Rattle.std.proofs.lemmas.Option.{slice_get_within}
use Rattle.brl_dues.specs.Steps.{dues_machine}
use Rattle.brl_forward.specs.Trace.{trace_of}
use Rattle.brl_forward.specs.declared.steps.Traced.{Traced}
use Rattle.brl_pairs.proofs.Listing.{Contains-in, IsIn, in-Contains}
use Rattle.brl_pairs.proofs.Lists.{inside}
use Rattle.brl_pairs.specs.Runs.{IsExact, IsPath, KeepsLaws, reads_of}
use Rattle.brl_pairs.specs.declared.step.Step.{Step}
use Rattle.std.specs.Cmp.{first_so, second_so}
use Rattle.std.proofs.lemmas.Bool.{and_from}
use Rattle.brl_rules.specs.TableView.{TableView}
use Rattle.brl_rules.specs.Text.{is_text}
use Rattle.brl_without.proofs.Paths.{path_within}
use Rattle.brl_without.specs.Without.{without}
use Rattle.brl_search.specs.Searched.{State}
use Rattle.brl_traces.specs.Traces.{IsTraced, PathsAreTraces}
use Rattle.brl_search.specs.Used.{AreUnused, IsUsed}
use Rattle.brl_unused.specs.Graph.{AreAscending}
use Rattle.brl_unused.specs.Taken.{AreTaken, IsTaken}

-- ---- Steps of a path and of a trace

-- each step of a path has one of the trace beside it, of the same rule, and the other way round
traced_step : (text : List ℕ) (path : List (Step State)) (trace : List Traced) → AllZip (IsTraced text) path trace → (x : Step State) → IsIn x path → (y : Traced) × IsIn y trace × (x.rule ≡ y.rule)
traced_step text [] trace zip x h = absurd h
traced_step text (z ∷ path) [] zip x h = absurd zip
traced_step text (z ∷ path) (y ∷ trace) zip x (inl e) = (y, inl refl, ap (λ (w : Step State). w.rule) e ∙ zip.0.rule)
traced_step text (z ∷ path) (y ∷ trace) zip x (inr h) = (let r = traced_step text path trace zip.1 x h in (r.0, inr r.1, r.2))

step_of : (text : List ℕ) (path : List (Step State)) (trace : List Traced) → AllZip (IsTraced text) path trace → (y : Traced) → IsIn y trace → (x : Step State) × IsIn x path × (x.rule ≡ y.rule)
step_of text [] [] zip y h = absurd h
step_of text [] (z ∷ trace) zip y h = absurd zip
step_of text (x ∷ path) [] zip y h = absurd h
step_of text (x ∷ path) (z ∷ trace) zip y (inl e) = (x, inl refl, zip.0.rule ∙ ap (λ (w : Traced). w.rule) (sym e))
step_of text (x ∷ path) (z ∷ trace) zip y (inr h) = (let r = step_of text path trace zip.1 y h in (r.0, inr r.1, r.2))

module _ (left_out : List ℕ) (t : TableView) (paths : PathsAreTraces t) where
  -- a path without the characters is one of the machine
  within : (path : List (Step State)) → IsPath (without left_out (dues_machine t)) (dues_machine t).start path → IsPath (dues_machine t) (dues_machine t).start path
  within path is = (path_within left_out (dues_machine t) (dues_machine t).start path is).0

  -- a rule that a path takes is used by what the path reads
  used : IsExact (without left_out (dues_machine t)) → (number : ℕ) → IsTaken (without left_out (dues_machine t)) number → IsUsed left_out t number
  used exact number h =
      let text = reads_of h.path in
      let r = traced_step text h.path (trace_of t text) (paths h.path (within h.path h.is_path)) h.step (Contains-in h.step h.path h.one) in
      record {
        text = text;
        is_text = first_so _ _ (exact.text h.path h.is_path);
        is_without = second_so (is_text t text) _ (exact.text h.path h.is_path);
        step = r.0;
        one = in-Contains r.0 (trace_of t text) r.1;
        of_rule = sym r.2 ∙ h.of_rule;
      }

  -- and a rule that a text uses is taken by the path of the text
  taken : KeepsLaws (without left_out (dues_machine t)) → (number : ℕ) → IsUsed left_out t number → IsTaken (without left_out (dues_machine t)) number
  taken laws number h =
      let a = laws.accepts h.text (and_from _ _ h.is_text h.is_without) in
      let zip : AllZip (IsTraced (reads_of a.path)) a.path (trace_of t (reads_of a.path)) = paths a.path (within a.path a.is_path) in
      let one : Contains (trace_of t (reads_of a.path)) h.step = subst (λ (text : List ℕ). Contains (trace_of t text) h.step) (sym a.reads) h.one in
      let r = step_of (reads_of a.path) a.path (trace_of t (reads_of a.path)) zip h.step (Contains-in h.step (trace_of t (reads_of a.path)) one) in
      record {
        path = a.path;
        is_path = a.is_path;
        step = r.0;
        one = in-Contains r.0 a.path r.1;
        of_rule = r.2 ∙ h.of_rule;
      }

  -- the rules that aren't marked are those that no text uses
  pub are_unused : IsExact (without left_out (dues_machine t)) → KeepsLaws (without left_out (dues_machine t)) → (marks : List Bool) → AreTaken (without left_out (dues_machine t)) (length t.rules + length t.characters) marks → (numbers : List ℕ)
      → AreAscending numbers → ((number : ℕ) → Contains numbers number ↔ (slice_get marks number ≡ Some false)) → AreUnused left_out t numbers
  are_unused exact laws marks are numbers ascending each = record {
    ascending = ascending;
    rules = λ number one. (let low = slice_get_within marks number false ((each number).0 one) in let size = are.count in omega (arith, low, size));
    unused = λ number one is. are.others number ((each number).0 one) (taken laws number is);
    others = λ number is.
        (let at = inside marks number (let size = are.count in omega (arith, is, size)) in
        by number at.0 at.1);
  }
    where
      by : (number : ℕ) (b : Bool) → slice_get marks number ≡ Some b → Contains numbers number ⊎ IsUsed left_out t number
      by number true at = inr (used exact number (are.taken number at))
      by number false at = inl ((each number).1 at)
