-- What is found where something is excused: the clashes of a list whose pairs of rules are, and the
-- first one whose pair isn't. And what is found where nothing is.
use Rattle.std.proofs.Common.{◌≡◌, ◌∙◌, ◌<◌, ◌⊎◌, ◌++◌, ◌&&◌, ◌||◌, ℕ, suc, inl, inr, All, Bool, true, false, if◌then◌else◌, List, [], ◌∷◌, IsTrue, None, Some, ap, append-nil, arith, length, not, refl, subst, subst₂, sym}
use Rattle.std.specs.Prelude.{◌==◌, find}
use Rattle.std.proofs.lemmas.Bool.{and_parts, eqb-true}
use Rattle.std.proofs.lemmas.List.Folds.{list_any-append}
use Rattle.brl_pairs.proofs.Divergence.{either_rules}
use Rattle.std.specs.List.Sorted.{IsStrictlySortedBy}
use Rattle.brl_divergence.specs.Listed.{compare_rules}
use Rattle.brl_pairs.specs.Body.{BodyView}
use Rattle.brl_pairs.specs.Divergence.{are_rules, has_rules}
use Rattle.brl_pairs.specs.Exchanges.{IsClosedUpTo}
use Rattle.brl_pairs.specs.Sets.{sets_of}
use Rattle.brl_pairs.specs.declared.excused.Excused.{Excused}
use Rattle.brl_forward.specs.Trace.{trace_of}
use Rattle.brl_pairs.proofs.Excusing.{up_to_from_closed}
use Rattle.brl_rules.specs.TableView.{TableView}
use Rattle.brl_search.specs.Clashes.{AreRuleClashes, IsOverLimit, IsRuleClash, IsWholeList, rules_of_clashes}
use Rattle.brl_search.specs.Scoped.{AreAllExcused, IsFoundFor, IsLeastUnexcused, first_unexcused, is_excused}
use Rattle.brl_search.specs.Found.{IsFoundWithout}
use Rattle.brl_search.specs.Searched.{State, machine_of}
use Rattle.brl_search.specs.declared.scoped.Searched.TheVariants.{Found}
use Rattle.brl_search.specs.declared.table_search.Found.{Found as FoundValue}
use Rattle.brl_search.specs.declared.table_search.Found.TheVariants.{Certified, Clashing, Limit}
use Rattle.brl_search.specs.declared.table_clashes.RuleClash.{RuleClash}
use Rattle.brl_states.specs.declared.cert.Cert.TheVariants.{Dues, Window, Word}
use Rattle.brl_traces.proofs.Alike.{itself}
use Rattle.brl_traces.proofs.Widening.{clashes_widen}
use Rattle.brl_traces.specs.Exchanges.{TracesAgreeBut}
use Rattle.brl_without.specs.Scope.{IsNothing}
use Rattle.brl_without.specs.Without.{without}

pub not_back : (b : Bool) → not b ≡ true → b ≡ false
not_back true e = absurd cc
not_back false e = refl

-- ---- The first of a list

module _ {X : Type 0} (p : X → Bool) where
  -- the first element that passes is one of the list, and passes
  pub first_passes : (P : X → Type 0) (xs : List X) → All P xs → (x : X) → find p xs ≡ Some x → P x × (p x ≡ true)
  first_passes P [] all x is = absurd cc
  first_passes P (y ∷ xs) all x is = cases (p y) refl (first_passes P xs (λ k d within. all (suc k) d (omega (arith, within))) x) is
    where
      cases : (b : Bool) → p y ≡ b → (find p xs ≡ Some x → P x × (p x ≡ true)) → (if b then Some y else find p xs) ≡ Some x → P x × (p x ≡ true)
      cases true passes later e = let same : y ≡ x = cc in (subst P same (all 0 y (omega arith)), ap p (sym same) ∙ passes)
      cases false fails later e = later e

-- ---- Excused pairs

module _ (excused : Excused) where
  -- a pair that is accepted or exchanged is one of both lists
  both : (x y : ℕ) → has_rules (excused.accepted ++ excused.exchanged) x y ≡ (has_rules excused.accepted x y || has_rules excused.exchanged x y)
  both x y = list_any-append (are_rules x y) excused.accepted excused.exchanged

  -- two rules that are those of an excused clash are such a pair, in either order
  of_clash : (c : RuleClash) → is_excused excused c ≡ true → (r s : ℕ) → are_rules r s (c.lesser, c.greater) ≡ true → has_rules (excused.accepted ++ excused.exchanged) r s ≡ true
  of_clash c known r s is = cases (c.lesser == r && c.greater == s) refl is
    where
      here : has_rules (excused.accepted ++ excused.exchanged) c.lesser c.greater ≡ true
      here = both c.lesser c.greater ∙ known

      cases : (b : Bool) → (c.lesser == r && c.greater == s) ≡ b → (b || (c.lesser == s && c.greater == r)) ≡ true → has_rules (excused.accepted ++ excused.exchanged) r s ≡ true
      cases true in_order e =
          let (one, other) = and_parts (c.lesser == r) (c.greater == s) in_order in
          (λ i. has_rules (excused.accepted ++ excused.exchanged) (sym (eqb-true c.lesser r one) i) (sym (eqb-true c.greater s other) i)) ∙ here
      cases false in_order e =
          let (one, other) = and_parts (c.lesser == s) (c.greater == r) e in
          (λ i. has_rules (excused.accepted ++ excused.exchanged) (sym (eqb-true c.greater r other) i) (sym (eqb-true c.lesser s one) i))
          ∙ either_rules (excused.accepted ++ excused.exchanged) c.greater c.lesser ∙ here

  -- where no clash of a list is beside what is excused, each pair of the list is excused
  pub all_excused : (list : List RuleClash) → first_unexcused excused list ≡ None → (r s : ℕ) → has_rules (rules_of_clashes list) r s ≡ true → has_rules (excused.accepted ++ excused.exchanged) r s ≡ true
  all_excused [] none r s has = absurd cc
  all_excused (c ∷ list) none r s has = cases (is_excused excused c) refl (λ rest. all_excused list rest r s) none
    where
      by : (b : Bool) → are_rules r s (c.lesser, c.greater) ≡ b → is_excused excused c ≡ true → (has_rules (rules_of_clashes list) r s ≡ true → has_rules (excused.accepted ++ excused.exchanged) r s ≡ true)
          → (b || has_rules (rules_of_clashes list) r s) ≡ true → has_rules (excused.accepted ++ excused.exchanged) r s ≡ true
      by true is known later e = of_clash c known r s is
      by false is known later e = later e

      cases : (b : Bool) → is_excused excused c ≡ b
          → (first_unexcused excused list ≡ None → has_rules (rules_of_clashes list) r s ≡ true → has_rules (excused.accepted ++ excused.exchanged) r s ≡ true)
          → (if not b then Some c else first_unexcused excused list) ≡ None → has_rules (excused.accepted ++ excused.exchanged) r s ≡ true
      cases true known later rest = by (are_rules r s (c.lesser, c.greater)) refl known (later rest) has
      cases false other later rest = absurd cc

  -- ---- A whole list

  module _ (left_out : List ℕ) (t : TableView) (limit : ℕ) (list : List RuleClash) where
    -- the first clash beside what is excused is one of the table
    least_clash : AreRuleClashes left_out t list → ((body : BodyView State) × IsWholeList left_out t limit list body) ⊎ ((states pairs : ℕ) × IsOverLimit left_out t limit (length list) states pairs)
        → (c : RuleClash) → first_unexcused excused list ≡ Some c → IsLeastUnexcused left_out excused t limit c
    least_clash are whole c is =
        let (clash, passes) = first_passes (λ (c : RuleClash). not (is_excused excused c)) (IsRuleClash left_out t) list are.each c is in
        record {
          clash = clash;
          unexcused = not_back (is_excused excused c) passes;
          list = list;
          are = are;
          least = is;
          whole = whole;
        }

    pub first_clash : AreRuleClashes left_out t list → ((body : BodyView State) × IsWholeList left_out t limit list body) ⊎ ((states pairs : ℕ) × IsOverLimit left_out t limit (length list) states pairs)
        → (c : RuleClash) → first_unexcused excused list ≡ Some c → IsFoundFor left_out excused t limit (Found (Clashing c.clash))
    first_clash are whole c is =
        let least = least_clash are whole c is in
        (least.clash.clash, λ some. (c.lesser, c.greater, least))

    -- where each pair is excused, the states and pairs show that texts diverge at no others
    pub whole_excused : ((exchanged accepted : List (ℕ × ℕ)) (body : BodyView State) → IsWholeList left_out t limit list body → ((r s : ℕ) → IsTrue (has_rules (rules_of_clashes list) r s) → IsTrue (has_rules accepted r s)) → IsClosedUpTo (without left_out (machine_of t)) exchanged accepted (sets_of body))
        → first_unexcused excused list ≡ None → (body : BodyView State) → IsWholeList left_out t limit list body → AreAllExcused left_out excused t limit body
    whole_excused law none body whole = record {
      no_other = clashes_widen t (rules_of_clashes list) (excused.accepted ++ excused.exchanged) (all_excused list none) left_out whole.no_other;
      within = whole.within;
      shown = law excused.exchanged (excused.accepted ++ excused.exchanged) body whole (all_excused list none);
      closed = λ nothing.
          law excused.exchanged excused.accepted body whole
          (λ r s has. subst (λ (pairs : List (ℕ × ℕ)). has_rules pairs r s ≡ true) (ap (λ (pairs : List (ℕ × ℕ)). excused.accepted ++ pairs) nothing ∙ append-nil excused.accepted) (all_excused list none r s has));
    }

-- ---- Nothing is excused

none_sorted : IsStrictlySortedBy compare_rules []
unfolding IsStrictlySortedBy
none_sorted = tt

module _ (left_out : List ℕ) (excused : Excused) (t : TableView) (limit : ℕ) (nothing : IsNothing excused) where
  -- what is found without excuses is found where there are none
  pub found_plainly : (found : FoundValue) → IsFoundWithout left_out t limit found → IsFoundFor left_out excused t limit (Found found)
  found_plainly (Certified (Dues body)) h = h.closed
  found_plainly (Certified (Window body)) h = h.closed
  found_plainly (Certified (Word body)) h = record {
    closed = subst₂ (λ (exchanged accepted : List (ℕ × ℕ)). IsClosedUpTo (without left_out (machine_of t)) exchanged accepted (sets_of body)) (sym nothing.1) (sym nothing.0)
        (up_to_from_closed (without left_out (machine_of t)) (sets_of body) h.closed);
    agree = λ left right is_left is_right left_none right_none same.
        subst (TracesAgreeBut t excused.exchanged excused.accepted left) (h.unambiguous left right is_left is_right left_none right_none same) (inl (itself t excused.exchanged left (trace_of t left)));
    within = h.within;
  }
  found_plainly (Clashing clash) h = (h.clash, λ some. absurd (some nothing))
  found_plainly (Limit states pairs) h = record {
    list = [];
    are = record { ascending = none_sorted; each = λ k d within. absurd (omega (arith, within)) };
    all_excused = refl;
    over = record {
      passed = either h.passed;
      few_states = h.by_one.0;
      few_pairs = h.by_one.1;
      few_rules = omega arith;
      states_reached = h.states_reached;
      pairs_reached = h.pairs_reached;
    };
  }
    where
      either : (limit < states) ⊎ (limit < pairs) → (limit < states) ⊎ ((limit < pairs) ⊎ (limit < 0))
      either (inl more) = inl more
      either (inr more) = inr (inl more)
