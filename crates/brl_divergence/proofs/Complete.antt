-- Over an exact machine the texts of two paths that diverge are two texts that clash, and a list
-- that is complete has each pair of rules at which such texts diverge.
use Rattle.std.proofs.Common.{◌≡◌, ℕ, Bool, true, false, ◌&&◌, ◌||◌, ◌==◌, IsTrue, List, [], ◌∷◌, ◌⊎◌, inl, inr, refl, sym, ◌∙◌, ap, subst, subst₂}
use Rattle.std.specs.Cmp.{first_so, second_so}
use Rattle.std.specs.List.{AllByRecursion}
use Rattle.std.specs.Map.{keys_of}
use Rattle.std.proofs.lemmas.Bool.Decides.{Decides-eqb}
use Rattle.std.proofs.lemmas.List.Elements.{recursion_from_All}
use Rattle.brl_closure.specs.Diverging.{AreTwoPathsAt}
use Rattle.brl_closure.specs.declared.search.texts.Texts.{Texts}
use Rattle.brl_pairs.specs.Divergence.{IsClashAt, IsCompleteList, IsUnambiguousBut, are_rules, has_rules}
use Rattle.brl_pairs.specs.Runs.{Accepts, Behaviour, IsExact, IsPath, reads_of}
use Rattle.brl_pairs.specs.declared.step.Step.{Step}
use Rattle.brl_divergence.specs.Answers.{IsListed}
use Rattle.brl_divergence.proofs.Rules.{has_one, has_one_back}
use Rattle.brl_divergence.specs.Listed.{IsDivergence, RuleTexts, rules_of}

-- two rule numbers that are those of a pair, in either order
either_order : (a b c d : Bool) → IsTrue ((a && b) || (c && d)) → (IsTrue a × IsTrue b) ⊎ (IsTrue c × IsTrue d)
either_order true true c d h = inl (refl, refl)
either_order true false c d h = inr (first_so c d h, second_so c d h)
either_order false b c d h = inr (first_so c d h, second_so c d h)

pub same_rules : (r s : ℕ) (p : ℕ × ℕ) → IsTrue (are_rules r s p) → ((p.0 ≡ r) × (p.1 ≡ s)) ⊎ ((p.0 ≡ s) × (p.1 ≡ r))
same_rules r s p h = elim (either_order (p.0 == r) (p.1 == s) (p.0 == s) (p.1 == r) h) [
  | inl is ↦ inl ((Decides-eqb p.0 r).0 is.0, (Decides-eqb p.1 s).0 is.1)
  | inr is ↦ inr ((Decides-eqb p.0 s).0 is.0, (Decides-eqb p.1 r).0 is.1)
]

either_list : (b c : Bool) → IsTrue (b || c) → IsTrue b ⊎ IsTrue c
either_list true c h = inl refl
either_list false c h = inr h

module _ {S : Type 0} (m : Behaviour S) (exact : IsExact m) where
  abbrev accepted : (path : List (Step S)) → IsPath m m.start path → (text : List ℕ) → reads_of path ≡ text → Accepts m text
  accepted path is text reads = record { path = path; is_path = is; reads = reads; cells = exact.translates path is ∙ ap m.translation reads }

  -- the texts of two paths that diverge clash, and diverge there
  pub clash_at : (r s : ℕ) (left right : List ℕ) → AreTwoPathsAt m r s left right → IsClashAt m r s left right
  clash_at r s left right h =
      let two = h.0 in
      record {
        left_text = subst (λ (text : List ℕ). IsTrue (m.is_text text)) two.left_reads (exact.text two.one two.one_path);
        right_text = subst (λ (text : List ℕ). IsTrue (m.is_text text)) two.right_reads (exact.text two.two two.two_path);
        differ = λ same. two.differ (exact.one_path two.one two.two two.one_path two.two_path (two.left_reads ∙ same ∙ sym two.right_reads));
        same_cells = ap m.translation (sym two.left_reads) ∙ sym (exact.translates two.one two.one_path) ∙ two.same_cells ∙ exact.translates two.two two.two_path ∙ ap m.translation two.right_reads;
        diverge = (accepted two.one two.one_path left two.left_reads, accepted two.two two.two_path right two.right_reads, h.1);
      }

  -- with the rules in the other order
  clash_back : (r s : ℕ) (left right : List ℕ) → IsClashAt m r s left right → IsClashAt m s r left right
  clash_back r s left right h = record {
    left_text = h.left_text;
    right_text = h.right_text;
    differ = h.differ;
    same_cells = h.same_cells;
    diverge = (h.diverge.0, h.diverge.1, (h.diverge.2.0, back r s h.diverge.2.0.one.rule h.diverge.2.0.other.rule h.diverge.2.1));
  }
    where
      back : (a b x y : ℕ) → IsTrue (has_rules ((a, b) ∷ []) x y) → IsTrue (has_rules ((b, a) ∷ []) x y)
      back a b x y is = elim (either_list (are_rules x y (a, b)) false is) [
        | inl one ↦ elim (same_rules x y (a, b) one) [
          | inl e ↦ subst₂ (λ (u v : ℕ). IsTrue (has_rules ((b, a) ∷ []) u v)) e.0 e.1 (has_one_back b a)
          | inr e ↦ subst₂ (λ (u v : ℕ). IsTrue (has_rules ((b, a) ∷ []) u v)) e.1 e.0 (has_one b a)
        ]
        | inr none ↦ absurd cc
      ]

  each_in : (es : List ((ℕ × ℕ) × Texts)) → AllByRecursion (IsDivergence m) es → (r s : ℕ) → IsTrue (has_rules (keys_of es) r s) → (left : List ℕ) × (right : List ℕ) × IsClashAt m r s left right
  each_in [] h r s has = absurd cc
  each_in (e ∷ es) h r s has = elim (either_list (are_rules r s e.0) (has_rules (keys_of es) r s) has) [
    | inl here ↦ (
        let left = e.1.left.items in
        let right = e.1.right.items in
        let clash = clash_at e.0.0 e.0.1 left right h.0.texts in
        elim (same_rules r s e.0 here) [
          | inl is ↦ (left, right, subst₂ (λ (a b : ℕ). IsClashAt m a b left right) is.0 is.1 clash)
          | inr is ↦ (left, right, clash_back s r left right (subst₂ (λ (a b : ℕ). IsClashAt m a b left right) is.0 is.1 clash))
        ])
    | inr later ↦ each_in es h.1 r s later
  ]

  pub complete_list : (list : RuleTexts) → IsListed m list → IsUnambiguousBut (rules_of list) m → IsCompleteList m (rules_of list)
  complete_list list h no_other = record {
    no_other = no_other;
    each = λ r s has. each_in list.entries (recursion_from_All (IsDivergence m) list.entries h.divergences) r s has;
  }
