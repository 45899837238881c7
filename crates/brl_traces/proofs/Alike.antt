-- Where two paths of the dues machine are the same but for exchanges, to their ends or up to a
-- place where they diverge, the traces of what they read are.
use Rattle.std.proofs.Common.{◌≡◌, ◌≢◌, ℕ, zero, suc, ◌+◌, ◌≤◌, List, [], ◌∷◌, ◌++◌, ◌⊎◌, inl, inr, length, IsTrue, Some, slice_get, take, drop, refl, sym, ap, ap₂, ◌∙◌, subst, subst₂, arith}
use Rattle.std.specs.List.{AllZip}
use Rattle.std.proofs.lemmas.Bool.{and_from}
use Rattle.brl_pairs.specs.declared.step.Step.{Step}
use Rattle.brl_pairs.specs.Divergence.{has_rules}
use Rattle.brl_pairs.specs.Exchanges.{AreAlike, DifferByExchanges, DifferByExchangesBut, TextsDifferByExchangesBut}
use Rattle.brl_pairs.specs.Runs.{IsPath, reads_of}
use Rattle.brl_rules.specs.TableView.{TableView}
use Rattle.brl_rules.specs.Text.{context_at}
use Rattle.brl_rules.specs.Translation.{chosen_at}
use Rattle.brl_rules.proofs.OneByOne.{Translating}
use Rattle.brl_rules.proofs.PositionAndRest.{at_end}
use Rattle.brl_states.specs.declared.dues_state.DuesState.{DuesState}
use Rattle.brl_states.specs.DuesContext.{context_of}
use Rattle.brl_dues.specs.Steps.{dues_machine}
use Rattle.brl_dues.proofs.Exact.{AreKnown}
use Rattle.brl_dues.proofs.Taking.{Choosing}
use Rattle.brl_forward.specs.Trace.{step_at, steps_from, trace_of}
use Rattle.brl_forward.specs.declared.steps.Traced.{Traced}
use Rattle.brl_without.specs.Without.{without}
use Rattle.brl_without.proofs.Paths.{path_within}
use Rattle.brl_traces.specs.Exchanges.{IsAlikeStep, TextsAgreeBut, TracesAgreeBut}
use Rattle.brl_traces.specs.Traces.{IsSameStep}
use Rattle.brl_traces.proofs.Traces.{Further, Walked, same-step, step-from_same, walked}

-- two lists of steps begin with steps that are alike, and go on with two different ones of a pair
-- of rules
record DivergeLater (t : TableView) (exchanged rules : List (ℕ × ℕ)) (left right : List ℕ) (xs ys : List Traced) : Type 0 where
  place : ℕ
  one : Traced
  other : Traced
  before : AllZip (IsAlikeStep t exchanged left right) (take place xs) (take place ys)
  one_there : slice_get xs place ≡ Some one
  other_there : slice_get ys place ≡ Some other
  differ : IsSameStep t left right one other → ⊥
  pair : IsTrue (has_rules rules one.rule other.rule)

-- steps are alike themselves
pub itself : (t : TableView) (exchanged : List (ℕ × ℕ)) (text : List ℕ) (xs : List Traced) → AllZip (IsAlikeStep t exchanged text text) xs xs
itself t exchanged text [] = tt
itself t exchanged text (x ∷ xs) = (inl (record { rule = refl; reads = refl; cells = refl; run = refl }), itself t exchanged text xs)

module _ (t : TableView) (choosing : Choosing t) (translating : Translating t) (known : AreKnown t) (further : Further t) (exchanged rules : List (ℕ × ℕ)) where
  -- two alike steps of one state make alike steps of both texts, and lead to one state
  alike_step : (left right : List ℕ) (i j : ℕ) (s : DuesState) (x y : Step DuesState) (path other : List (Step DuesState)) → AreAlike exchanged x y → Walked t left i s x path → Walked t right j s y other
      → IsAlikeStep t exchanged left right (step_at t left i) (step_at t right j) × (x.next ≡ y.next)
  alike_step left right i j s x y path other (inl same) v w = (
    inl (same-step t choosing translating known further left right i j s x path other v (subst (λ (z : Step DuesState). Walked t right j s z other) (sym same) w)),
    ap (λ (z : Step DuesState). z.next) same,
  )
  alike_step left right i j s x y path other (inr exchange) v w = (
    inr (record {
      rules = ap₂ (has_rules exchanged) (sym v.traced.rule) (sym w.traced.rule) ∙ exchange.rules;
      cells = sym v.traced.cells ∙ exchange.cells ∙ w.traced.cells;
    }),
    exchange.next,
  )

  -- from a state on, traces have alike steps to their ends where paths have
  alike_to_ends : (left right : List ℕ) (n k i j : ℕ) (s : DuesState) (first second : List (Step DuesState)) → DifferByExchanges exchanged first second
      → IsPath (dues_machine t) s first → IsPath (dues_machine t) s second → context_of s ≡ context_at t left i → context_of s ≡ context_at t right j
      → drop i left ≡ reads_of first → drop j right ≡ reads_of second → length (reads_of first) ≤ n → length (reads_of second) ≤ k
      → AllZip (IsAlikeStep t exchanged left right) (steps_from t left n i) (steps_from t right k j)
  alike_to_ends left right zero zero i j s [] [] alike p q here there rest tail few small = tt
  alike_to_ends left right zero (suc k) i j s [] [] alike p q here there rest tail few small = rw (at_end j right tail) tt
  alike_to_ends left right (suc n) zero i j s [] [] alike p q here there rest tail few small = rw (at_end i left rest) tt
  alike_to_ends left right (suc n) (suc k) i j s [] [] alike p q here there rest tail few small = rw (at_end i left rest, at_end j right tail) tt
  alike_to_ends left right n k i j s [] (y ∷ second) alike p q here there rest tail few small = absurd alike
  alike_to_ends left right n k i j s (x ∷ first) [] alike p q here there rest tail few small = absurd alike
  alike_to_ends left right zero k i j s (x ∷ first) (y ∷ second) alike p q here there rest tail few small =
      (let size = (walked t choosing translating known further left i s x first p here rest).fewer in absurd (omega (arith, few, size)))
  alike_to_ends left right (suc n) zero i j s (x ∷ first) (y ∷ second) alike p q here there rest tail few small =
      (let size = (walked t choosing translating known further right j s y second q there tail).fewer in absurd (omega (arith, small, size)))
  alike_to_ends left right (suc n) (suc k) i j s (x ∷ first) (y ∷ second) alike p q here there rest tail few small =
      let v = walked t choosing translating known further left i s x first p here rest in
      let w = walked t choosing translating known further right j s y second q there tail in
      let v_size = v.fewer in
      let w_size = w.fewer in
      let step = alike_step left right i j s x y first second alike.0 v w in
      rw (v.within, w.within) (
        step.0,
        alike_to_ends left right n k (i + (chosen_at t left i).taken) (j + (chosen_at t right j).taken) x.next first second alike.1 p.1 (subst (λ (z : DuesState). IsPath (dues_machine t) z second) (sym step.1) q.1)
            v.next (ap context_of step.1 ∙ w.next) v.left w.left (omega (arith, v_size, few)) (omega (arith, w_size, small)),
      )

  -- from a state on, traces diverge after alike steps where paths do
  alike_up_to : (left right : List ℕ) (n k i j : ℕ) (s : DuesState) (befores others : List (Step DuesState)) (x y : Step DuesState) (path other : List (Step DuesState)) → DifferByExchanges exchanged befores others
      → x ≢ y → IsTrue (has_rules rules x.rule y.rule) → IsPath (dues_machine t) s (befores ++ x ∷ path) → IsPath (dues_machine t) s (others ++ y ∷ other)
      → context_of s ≡ context_at t left i → context_of s ≡ context_at t right j → drop i left ≡ reads_of (befores ++ x ∷ path) → drop j right ≡ reads_of (others ++ y ∷ other)
      → length (reads_of (befores ++ x ∷ path)) ≤ n → length (reads_of (others ++ y ∷ other)) ≤ k
      → DivergeLater t exchanged rules left right (steps_from t left n i) (steps_from t right k j)
  alike_up_to left right zero k i j s [] [] x y path other alike differ pair p q here there rest tail few small =
      (let size = (walked t choosing translating known further left i s x path p here rest).fewer in absurd (omega (arith, few, size)))
  alike_up_to left right (suc n) zero i j s [] [] x y path other alike differ pair p q here there rest tail few small =
      (let size = (walked t choosing translating known further right j s y other q there tail).fewer in absurd (omega (arith, small, size)))
  alike_up_to left right (suc n) (suc k) i j s [] [] x y path other alike differ pair p q here there rest tail few small =
      let v = walked t choosing translating known further left i s x path p here rest in
      let w = walked t choosing translating known further right j s y other q there tail in
      rw (v.within, w.within) (record {
        place = 0;
        one = step_at t left i;
        other = step_at t right j;
        before = tt;
        one_there = refl;
        other_there = refl;
        differ = λ same. differ (step-from_same t choosing translating known further left right i j s x y path other v w same);
        pair = ap₂ (has_rules rules) (sym v.traced.rule) (sym w.traced.rule) ∙ pair;
      })
  alike_up_to left right n k i j s [] (z ∷ others) x y path other alike differ pair p q here there rest tail few small = absurd alike
  alike_up_to left right n k i j s (z ∷ befores) [] x y path other alike differ pair p q here there rest tail few small = absurd alike
  alike_up_to left right zero k i j s (b ∷ befores) (c ∷ others) x y path other alike differ pair p q here there rest tail few small =
      (let size = (walked t choosing translating known further left i s b (befores ++ x ∷ path) p here rest).fewer in absurd (omega (arith, few, size)))
  alike_up_to left right (suc n) zero i j s (b ∷ befores) (c ∷ others) x y path other alike differ pair p q here there rest tail few small =
      (let size = (walked t choosing translating known further right j s c (others ++ y ∷ other) q there tail).fewer in absurd (omega (arith, small, size)))
  alike_up_to left right (suc n) (suc k) i j s (b ∷ befores) (c ∷ others) x y path other alike differ pair p q here there rest tail few small =
      let v = walked t choosing translating known further left i s b (befores ++ x ∷ path) p here rest in
      let w = walked t choosing translating known further right j s c (others ++ y ∷ other) q there tail in
      let v_size = v.fewer in
      let w_size = w.fewer in
      let step = alike_step left right i j s b c (befores ++ x ∷ path) (others ++ y ∷ other) alike.0 v w in
      let more = alike_up_to left right n k (i + (chosen_at t left i).taken) (j + (chosen_at t right j).taken) b.next befores others x y path other alike.1 differ pair p.1
      (subst (λ (z : DuesState). IsPath (dues_machine t) z (others ++ y ∷ other)) (sym step.1) q.1) v.next (ap context_of step.1 ∙ w.next) v.left w.left (omega (arith, v_size, few)) (omega (arith, w_size, small)) in
      rw (v.within, w.within) (record {
        place = suc more.place;
        one = more.one;
        other = more.other;
        before = (step.0, more.before);
        one_there = more.one_there;
        other_there = more.other_there;
        differ = more.differ;
        pair = more.pair;
      })

  -- the traces of what two paths read agree where the paths do
  agree-as-paths : (first second : List (Step DuesState)) → IsPath (dues_machine t) (dues_machine t).start first → IsPath (dues_machine t) (dues_machine t).start second
      → DifferByExchangesBut exchanged rules first second → TracesAgreeBut t exchanged rules (reads_of first) (reads_of second)
  unfolding trace_of
  agree-as-paths first second p q (inl alike) =
      inl (alike_to_ends (reads_of first) (reads_of second) (length (reads_of first)) (length (reads_of second)) 0 0 (dues_machine t).start first second alike p q refl refl refl refl (omega arith) (omega arith))
  agree-as-paths first second p q (inr at) =
      let start = (dues_machine t).start in
      let one = at.first_before ++ at.one ∷ at.first_rest in
      let other = at.second_before ++ at.other ∷ at.second_rest in
      let left = reads_of first in
      let right = reads_of second in
      let left_reads : left ≡ reads_of one = ap reads_of at.first_steps in
      let right_reads : right ≡ reads_of other = ap reads_of at.second_steps in
      let left_size = ap length left_reads in
      let right_size = ap length right_reads in
      let r = alike_up_to left right (length left) (length right) 0 0 start at.first_before at.second_before at.one at.other at.first_rest at.second_rest at.before at.differ at.pair
      (subst (IsPath (dues_machine t) start) at.first_steps p) (subst (IsPath (dues_machine t) start) at.second_steps q) refl refl left_reads right_reads
      (omega (arith, left_size)) (omega (arith, right_size)) in
      inr (record { place = r.place; one = r.one; other = r.other; before = r.before; one_there = r.one_there; other_there = r.other_there; differ = r.differ; pair = r.pair })

  pub texts-agree : (left_out : List ℕ) → TextsDifferByExchangesBut exchanged rules (without left_out (dues_machine t)) → TextsAgreeBut left_out exchanged rules t
  texts-agree left_out but left right is_left is_right left_none right_none same =
      let m = dues_machine t in
      let h = but left right (and_from _ _ is_left left_none) (and_from _ _ is_right right_none) same in
      let first_path = (path_within left_out m m.start h.0.path h.0.is_path).0 in
      let second_path = (path_within left_out m m.start h.1.path h.1.is_path).0 in
      subst₂ (TracesAgreeBut t exchanged rules) h.0.reads h.1.reads (agree-as-paths h.0.path h.1.path first_path second_path h.2)
