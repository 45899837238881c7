-- What becomes of a lead decides which pair follows.
use Rattle.std.proofs.Common.{◌≡◌, ℕ, List, [], ◌∷◌, ◌++◌, ◌⊎◌, inl, inr, length, Some, refl, sym, ◌∙◌, ap, arith}
use Rattle.std.proofs.lemmas.List.{append_cancel_left, length-append}
use Rattle.brl_pairs.specs.declared.lead.Advanced.{Advanced}
use Rattle.brl_pairs.specs.declared.lead.Advanced.TheVariants.{Still, Swapped, Apart}
use Rattle.brl_pairs.specs.declared.step.Pair.{Pair}
use Rattle.brl_pairs.specs.declared.step.Step.{Step}
use Rattle.brl_pairs.specs.Pairs.{AdvanceDecides, GetsAhead, IsAdvanced, StaysBehind, pair_behind}

-- lists that extend a list they begin are empty
adds_nothing : (xs ys zs : List ℕ) → xs ≡ (xs ++ ys) ++ zs → ys ≡ []
adds_nothing xs [] zs e = refl
adds_nothing xs (y ∷ ys) zs e =
    let size = ap length e in
    absurd (omega (arith, size, length-append (xs ++ (y ∷ ys)) zs, length-append xs (y ∷ ys)))

ends_nothing : (xs ys zs : List ℕ) → xs ≡ (xs ++ ys) ++ zs → zs ≡ []
ends_nothing xs ys [] e = refl
ends_nothing xs ys (z ∷ zs) e =
    let size = ap length e in
    absurd (omega (arith, size, length-append (xs ++ ys) (z ∷ zs), length-append xs ys))

module _ {S : Type 0} where
  same_pair : (a b : S) (lead : List ℕ) (q : Pair S) → q.ahead ≡ a → q.behind ≡ b → lead ≡ q.lead → Some (record { ahead = a; behind = b; lead = lead }) ≡ Some q
  same_pair a b lead q ahead behind rest = λ i. Some (record { ahead = (sym ahead) i; behind = (sym behind) i; lead = rest i })

  stays : (p q : Pair S) (x : Step S) (advanced : Advanced) → IsAdvanced p.lead x.cells advanced → StaysBehind p x q → pair_behind p x advanced ≡ Some q
  stays p q x (Still rest) is h =
      same_pair p.ahead x.next rest.now q h.ahead h.behind (append_cancel_left x.cells rest.now q.lead (sym is ∙ h.lead))
  stays p q x (Swapped rest) is h = absurd (is.0 (adds_nothing p.lead rest.now q.lead (h.lead ∙ ap (λ l. l ++ q.lead) is.1)))
  stays p q x Apart is h = absurd (is.0 q.lead h.lead)

  gets : (p q : Pair S) (x : Step S) (advanced : Advanced) → IsAdvanced p.lead x.cells advanced → GetsAhead p x q → pair_behind p x advanced ≡ Some q
  gets p q x (Still rest) is h = absurd (h.some (ends_nothing x.cells rest.now q.lead (h.lead ∙ ap (λ l. l ++ q.lead) is)))
  gets p q x (Swapped rest) is h =
      same_pair x.next p.ahead rest.now q h.ahead h.behind (append_cancel_left p.lead rest.now q.lead (sym is.1 ∙ h.lead))
  gets p q x Apart is h = absurd (is.1 q.lead h.lead)

  part_ahead : (p q : Pair S) → Some p ≡ Some q → p ≡ q
  part_ahead p q e = cc

  from_some : (p q : Pair S) (x : Step S) (advanced : Advanced) → IsAdvanced p.lead x.cells advanced → pair_behind p x advanced ≡ Some q → StaysBehind p x q ⊎ GetsAhead p x q
  from_some p q x (Still rest) is e =
      let same = part_ahead (record { ahead = p.ahead; behind = x.next; lead = rest.now }) q e in
      inl (record {
        ahead = ap (λ (r : Pair S). r.ahead) (sym same);
        behind = ap (λ (r : Pair S). r.behind) (sym same);
        lead = is ∙ ap (λ (r : Pair S). x.cells ++ r.lead) same;
      })
  from_some p q x (Swapped rest) is e =
      let same = part_ahead (record { ahead = x.next; behind = p.ahead; lead = rest.now }) q e in
      inr (record {
        ahead = ap (λ (r : Pair S). r.ahead) (sym same);
        behind = ap (λ (r : Pair S). r.behind) (sym same);
        some = λ none. is.0 (ap (λ (r : Pair S). r.lead) same ∙ none);
        lead = is.1 ∙ ap (λ (r : Pair S). p.lead ++ r.lead) same;
      })
  from_some p q x Apart is e = cc

  pub advance-decides : AdvanceDecides S
  advance-decides p q x advanced is =
      ((λ moved. elim moved [ inl h ↦ stays p q x advanced is h | inr h ↦ gets p q x advanced is h ]), from_some p q x advanced is)
