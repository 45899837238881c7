-- The texts of a clash at a pair of rules are read by two paths that diverge at it: two different
-- paths with the same cells diverge somewhere, and the traces of texts diverge at one place.
use Rattle.std.proofs.Common.{◌≡◌, ◌≢◌, ◌∙◌, ◌⊎◌, ℕ, IsTrue, List, [], ◌∷◌, ◌++◌, inl, inr, length, refl, sym, ap, arith, subst, subst₂}
use Rattle.std.proofs.lemmas.Bool.{and_from, cases_eq}
use Rattle.std.proofs.lemmas.List.{append_cancel_left, length-append}
use Rattle.brl_closure.specs.Diverging.{AreTwoPathsAt}
use Rattle.brl_closure.specs.declared.search.texts.Texts.{Texts}
use Rattle.brl_divergence.specs.Listed.{IsDivergence}
use Rattle.brl_divergence.proofs.Rules.{has_one}
use Rattle.brl_dues.specs.Steps.{dues_machine}
use Rattle.brl_forward.specs.Trace.{trace_of}
use Rattle.brl_forward.specs.declared.steps.Traced.{Traced}
use Rattle.brl_pairs.specs.Divergence.{DivergeAt, Divergence, HaveRules, has_rules}
use Rattle.brl_pairs.specs.Runs.{Accepts, Behaviour, IsListed, IsPath, KeepsLaws, cells_of, reads_of}
use Rattle.brl_pairs.specs.declared.step.Step.{Step}
use Rattle.brl_pairs.proofs.Divergence.{one_step, places_differ}
use Rattle.brl_rules.specs.TableView.{TableView}
use Rattle.brl_search.specs.Clashes.{IsRuleClash}
use Rattle.brl_search.specs.declared.table_clashes.RuleClash.{RuleClash}
use Rattle.brl_search.proofs.WholeList.{one_place, pair_listed}
use Rattle.brl_traces.specs.Traces.{IsSameStep, TracesDivergeAsPaths}
use Rattle.brl_traces.proofs.Traces.{traces-diverge}
use Rattle.brl_without.specs.Without.{without}
use Rattle.brl_without.proofs.Paths.{path_within}

-- ---- Two paths

module _ {S : Type 0} (m : Behaviour S) (laws : KeepsLaws m) where
  -- a path that takes a step gives cells
  some_cells : (s : S) (x : Step S) (path : List (Step S)) → IsListed (m.steps s) x → cells_of (x ∷ path) ≡ [] → ⊥
  some_cells s x path listed none =
      let some = (laws.good_steps s x listed).some_cells in
      let size = length-append x.cells (cells_of path) in
      let all : length (x.cells ++ cells_of path) ≡ 0 = ap length none in
      omega (arith, some, size, all)

  -- one step more before two paths
  after_one : (x y : Step S) (first second : List (Step S)) → x ≡ y → (first ≡ second) ⊎ Divergence first second → (x ∷ first ≡ y ∷ second) ⊎ Divergence (x ∷ first) (y ∷ second)
  after_one x y first second same (inl one) = inl cc
  after_one x y first second same (inr at) = inr (record {
    before = x ∷ at.before;
    one = at.one;
    other = at.other;
    first_rest = at.first_rest;
    second_rest = at.second_rest;
    differ = at.differ;
    first_steps = ap (λ (l : List (Step S)). x ∷ l) at.first_steps;
    second_steps = ap (λ (z : Step S). z ∷ second) (sym same) ∙ ap (λ (l : List (Step S)). x ∷ l) at.second_steps;
  })

  -- two paths from a state with the same cells are one, or diverge
  one_or_apart : (s : S) (first second : List (Step S)) → IsPath m s first → IsPath m s second → cells_of first ≡ cells_of second → (first ≡ second) ⊎ Divergence first second
  one_or_apart s [] [] a b same = inl refl
  one_or_apart s [] (y ∷ second) a b same = absurd (some_cells s y second b.0 (sym same))
  one_or_apart s (x ∷ first) [] a b same = absurd (some_cells s x first a.0 same)
  one_or_apart s (x ∷ first) (y ∷ second) a b same = elim (cases_eq a.0.0 b.0.0) [
    | inl here ↦ (
        let one : x ≡ y = one_step (m.steps s) a.0.0 b.0.0 x y here a.0.1 b.0.1 in
        let rest : cells_of first ≡ cells_of second = append_cancel_left x.cells (cells_of first) (cells_of second) (same ∙ ap (λ (z : Step S). z.cells ++ cells_of second) (sym one)) in
        after_one x y first second one (one_or_apart x.next first second a.1 (subst (λ (z : Step S). IsPath m z.next second) (sym one) b.1) rest))
    | inr other ↦ inr (record {
      before = [];
      one = x;
      other = y;
      first_rest = first;
      second_rest = second;
      differ = places_differ m laws s a.0.0 b.0.0 x y other a.0.1 b.0.1;
      first_steps = refl;
      second_steps = refl;
    })
  ]

-- ---- The paths of a clash

module _ (left_out : List ℕ) (t : TableView) (laws : KeepsLaws (without left_out (dues_machine t))) (as_paths : TracesDivergeAsPaths t) (c : RuleClash) (h : IsRuleClash left_out t c) where
  abbrev left : List ℕ
  left = c.clash.left

  abbrev right : List ℕ
  right = c.clash.right

  one : Accepts (without left_out (dues_machine t)) left
  one = laws.accepts left (and_from _ _ h.clash.clash.left_text h.clash.left_without)

  other : Accepts (without left_out (dues_machine t)) right
  other = laws.accepts right (and_from _ _ h.clash.clash.right_text h.clash.right_without)

  same_cells : cells_of one.path ≡ cells_of other.path
  same_cells = one.cells ∙ h.clash.clash.left_cells ∙ sym h.clash.clash.right_cells ∙ sym other.cells

  -- the paths diverge where the traces do
  at_rules : (at : Divergence one.path other.path) → HaveRules ((c.lesser, c.greater) ∷ []) at.one at.other
  at_rules at =
      let m = dues_machine t in
      let own = (at.one.rule, at.other.rule) ∷ [] in
      let found = traces-diverge t as_paths own left right one.path other.path (path_within left_out m m.start one.path one.is_path).0
      (path_within left_out m m.start other.path other.is_path).0 one.reads other.reads (at, has_one at.one.rule at.other.rule) in
      let known = h.diverge in
      let same = one_place (IsSameStep t left right) (trace_of t left) (trace_of t right) found.place known.place found.one found.other known.one known.other
      found.before found.one_there found.other_there found.differ known.before known.one_there known.other_there known.differ in
      pair_listed ((c.lesser, c.greater) ∷ []) at.one.rule at.other.rule known.one.rule known.other.rule
      (subst₂ (λ (x y : Traced). IsTrue (has_rules own x.rule y.rule)) same.0 same.1 found.pair) known.pair

  differ : one.path ≢ other.path
  differ same = h.clash.clash.differ (sym one.reads ∙ ap reads_of same ∙ other.reads)

  apart : DivergeAt ((c.lesser, c.greater) ∷ []) one.path other.path
  apart =
      let m = without left_out (dues_machine t) in
      elim (one_or_apart m laws m.start one.path other.path one.is_path other.is_path same_cells) [
        | inl same ↦ absurd (differ same)
        | inr at ↦ (at, at_rules at)
      ]

  pub divergence : (texts : Texts) → texts.left.items ≡ left → texts.right.items ≡ right → IsDivergence (without left_out (dues_machine t)) ((c.lesser, c.greater), texts)
  divergence texts left_is right_is = record {
    in_order = h.in_order;
    texts = subst₂ (AreTwoPathsAt (without left_out (dues_machine t)) c.lesser c.greater) (sym left_is) (sym right_is) (
      record {
        one = one.path;
        two = other.path;
        one_path = one.is_path;
        two_path = other.is_path;
        differ = differ;
        same_cells = same_cells;
        left_reads = one.reads;
        right_reads = other.reads;
      },
      apart,
    );
  }
