-- Edges of one kind miss the same pairs and are excused with the same edges, and two edges miss a
-- pair, or are excused, in either order.
use Rattle.std.proofs.Common.{◌≡◌, ℕ, ◌||◌, Bool, true, false, if◌then◌else◌, List, [], ◌∷◌, ◌++◌, inl, inr, Some, None, refl, sym, ◌∙◌, ap, subst}
use Rattle.std.proofs.lemmas.Bool.{or_parts}
use Rattle.std.proofs.lemmas.List.{append-nil}
use Rattle.brl_closure.specs.Alike.{Kind, kind_of, named_rule}
use Rattle.brl_closure.specs.Steps.{MissUnexcused}
use Rattle.brl_pairs.specs.Body.{NumberPair}
use Rattle.brl_pairs.specs.NumberPairs.{IsMissing, IsThere}
use Rattle.brl_pairs.specs.Divergence.{has_rules}
use Rattle.brl_pairs.specs.Excused.{AreExcusedEdges, names_rule}
use Rattle.brl_pairs.specs.declared.edge.Edge.{Edge}
use Rattle.brl_pairs.specs.declared.excused.Excused.{Excused}
use Rattle.brl_pairs.proofs.Divergence.{either_rules}
use Rattle.brl_pairs.proofs.Excusing.{unnamed}

-- ---- Excused edges of one kind

module _ (excused : Excused) (pairs : List (ℕ × ℕ)) (within : (rule : ℕ) → (names_rule excused.accepted rule || names_rule excused.exchanged rule) ≡ false → names_rule pairs rule ≡ false) where
  -- a rule in place of another that is the same where one of the two is named
  same_first : (a b c : ℕ) → named_rule excused a ≡ named_rule excused b → has_rules pairs a c ≡ has_rules pairs b c
  same_first a b c same = by_names (names_rule excused.accepted a || names_rule excused.exchanged a) (names_rule excused.accepted b || names_rule excused.exchanged b) refl refl same
    where
      by_names : (u v : Bool) → (names_rule excused.accepted a || names_rule excused.exchanged a) ≡ u → (names_rule excused.accepted b || names_rule excused.exchanged b) ≡ v
          → (if u then Some a else None) ≡ (if v then Some b else None) → has_rules pairs a c ≡ has_rules pairs b c
      by_names true true one other e = (let rules : a ≡ b = cc in ap (λ (r : ℕ). has_rules pairs r c) rules)
      by_names true false one other e = absurd (let wrong : Some a ≡ None = e in cc)
      by_names false true one other e = absurd (let wrong : None ≡ Some b = e in cc)
      by_names false false one other e = unnamed pairs a c (within a one) ∙ sym (unnamed pairs b c (within b other))

  same_both : (a b c d : ℕ) → named_rule excused a ≡ named_rule excused b → named_rule excused c ≡ named_rule excused d → has_rules pairs a c ≡ has_rules pairs b d
  same_both a b c d first second = same_first a b c first ∙ either_rules pairs b c ∙ same_first c d b second ∙ either_rules pairs d b

module _ (excused : Excused) where
  -- what is excused of two edges is excused of two others of their kinds
  kinds_excused : (e f x y : Edge) → kind_of excused e ≡ kind_of excused x → kind_of excused f ≡ kind_of excused y
      → AreExcusedEdges excused.exchanged excused.accepted e f → AreExcusedEdges excused.exchanged excused.accepted x y
  kinds_excused e f x y e_alike f_alike h =
      let first : named_rule excused e.rule ≡ named_rule excused x.rule = ap (λ (k : Kind). k.rule) e_alike in
      let second : named_rule excused f.rule ≡ named_rule excused y.rule = ap (λ (k : Kind). k.rule) f_alike in
      elim h [
        | inl have ↦ inl (sym (same_both excused excused.accepted (λ r none. (or_parts (names_rule excused.accepted r) (names_rule excused.exchanged r) none).0) e.rule x.rule f.rule y.rule first second) ∙ have)
        | inr exchange ↦ inr (record {
          rules = sym (same_both excused excused.exchanged (λ r none. (or_parts (names_rule excused.accepted r) (names_rule excused.exchanged r) none).1) e.rule x.rule f.rule y.rule first second) ∙ exchange.rules;
          cells = sym (ap (λ (k : Kind). k.cells) e_alike) ∙ exchange.cells ∙ ap (λ (k : Kind). k.cells) f_alike;
          next = sym (ap (λ (k : Kind). k.next) e_alike) ∙ exchange.next ∙ ap (λ (k : Kind). k.next) f_alike;
        })
      ]

  -- two edges in the other order
  pub excused_back : (x y : Edge) → AreExcusedEdges excused.exchanged excused.accepted x y → AreExcusedEdges excused.exchanged excused.accepted y x
  excused_back x y (inl have) = inl (either_rules excused.accepted y.rule x.rule ∙ have)
  excused_back x y (inr exchange) = inr (record {
    rules = either_rules excused.exchanged y.rule x.rule ∙ exchange.rules;
    cells = sym exchange.cells;
    next = sym exchange.next;
  })

module _ (excused : Excused) (pairs : List NumberPair) where
  -- ---- Edges of one kind

  pub same_missing : (ahead : ℕ) (lead : List ℕ) (e x : Edge) → kind_of excused e ≡ kind_of excused x → IsMissing pairs ahead lead x → IsMissing pairs ahead lead e
  same_missing ahead lead e x alike gap =
      let next : e.next ≡ x.next = ap (λ (k : Kind). k.next) alike in
      let cells : e.cells ≡ x.cells = ap (λ (k : Kind). k.cells) alike in
      elim gap [
        | inl still ↦ inl (record {
          rest = still.rest;
          longer = still.longer ∙ ap (λ (z : List ℕ). z ++ still.rest) (sym cells);
          missing = λ there. still.missing (subst (λ (n : ℕ). IsThere pairs ahead n still.rest) next there);
        })
        | inr swapped ↦ inr (record {
          rest = swapped.rest;
          some = swapped.some;
          shorter = cells ∙ swapped.shorter;
          missing = λ there. swapped.missing (subst (λ (n : ℕ). IsThere pairs n ahead swapped.rest) next there);
        })
      ]

  same_gap : (e f x y : Edge) → kind_of excused e ≡ kind_of excused x → kind_of excused f ≡ kind_of excused y → IsMissing pairs x.next x.cells y → IsMissing pairs e.next e.cells f
  same_gap e f x y e_alike f_alike gap =
      let next : e.next ≡ x.next = ap (λ (k : Kind). k.next) e_alike in
      let cells : e.cells ≡ x.cells = ap (λ (k : Kind). k.cells) e_alike in
      subst (λ (n : ℕ). IsMissing pairs n e.cells f) (sym next)
      (subst (λ (z : List ℕ). IsMissing pairs x.next z f) (sym cells)
      (same_missing x.next x.cells f y f_alike gap))

  pub same_split : (e f x y : Edge) → kind_of excused e ≡ kind_of excused x → kind_of excused f ≡ kind_of excused y → MissUnexcused excused pairs x y → MissUnexcused excused pairs e f
  same_split e f x y e_alike f_alike gap = (same_gap e f x y e_alike f_alike gap.0, λ h. gap.1 (kinds_excused excused e f x y e_alike f_alike h))

  -- ---- The other order

  other_order : (a b : ℕ) → IsThere pairs a b [] → IsThere pairs b a []
  other_order a b (inl there) = inr (refl, there)
  other_order a b (inr there) = inl there.1

  -- where both edges have the same cells there is no lead, and the pair is found in its other order
  same_or_longer : (x y : Edge) (rest : List ℕ) → x.cells ≡ y.cells ++ rest → (IsThere pairs x.next y.next rest → ⊥) → IsMissing pairs y.next y.cells x
  same_or_longer x y [] longer missing = inl (record {
    rest = [];
    longer = sym (append-nil y.cells) ∙ sym longer ∙ sym (append-nil x.cells);
    missing = λ there. missing (other_order y.next x.next there);
  })
  same_or_longer x y (c ∷ cs) longer missing = inr (record { rest = c ∷ cs; some = (λ none. cc); shorter = longer; missing = missing })

  missing_other_order : (x y : Edge) → IsMissing pairs x.next x.cells y → IsMissing pairs y.next y.cells x
  missing_other_order x y (inl still) = same_or_longer x y still.rest still.longer still.missing
  missing_other_order x y (inr swapped) = inl (record { rest = swapped.rest; longer = swapped.shorter; missing = swapped.missing })

  pub unexcused_other_order : (x y : Edge) → MissUnexcused excused pairs x y → MissUnexcused excused pairs y x
  unexcused_other_order x y gap = (missing_other_order x y gap.0, λ h. gap.1 (excused_back excused y x h))
