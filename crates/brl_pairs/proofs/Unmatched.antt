-- An edge that doesn't match a lead leads to no pair.
use Rattle.std.proofs.Common.{◌≡◌, ◌↔◌, ◌⊎◌, ℕ, Bool, true, false, List, inl, inr, nat_eq, refl, sym, ◌∙◌, true≢false}
use Rattle.std.specs.List.{starts_with}
use Rattle.brl_pairs.specs.Body.{NumberPair}
use Rattle.brl_pairs.specs.NumberPairs.{IsFollowed}
use Rattle.brl_pairs.specs.Pairs.{IsAdvanced}
use Rattle.brl_pairs.specs.Sorted.{BeginsWith, DoMatch}
use Rattle.brl_pairs.specs.declared.edge.Edge.{Edge}
use Rattle.brl_pairs.specs.declared.lead.Advanced.TheVariants.{Apart}
use Rattle.brl_pairs.proofs.CellOrder.{begins_from_test, test_from_begins}

pub apart_unmatched : (lead cells : List ℕ) → IsAdvanced lead cells Apart ↔ (DoMatch lead cells → ⊥)
apart_unmatched lead cells = (
  (λ apart m. elim m [ inl s ↦ apart.0 s.0 s.1 | inr b ↦ apart.1 b.0 b.1 ]),
  λ other. ((λ rest e. other (inl (rest, e))), λ rest e. other (inr (rest, e))),
)

begins_or_not : (cells start : List ℕ) → BeginsWith cells start ⊎ (BeginsWith cells start → ⊥)
begins_or_not cells start = by (starts_with nat_eq cells start) refl
  where
    by : (b : Bool) → starts_with nat_eq cells start ≡ b → BeginsWith cells start ⊎ (BeginsWith cells start → ⊥)
    by true e = inl (begins_from_test cells start e)
    by false e = inr (λ h. true≢false (sym (test_from_begins cells start h) ∙ e))

-- cells match a lead or don't
pub match_or_not : (lead cells : List ℕ) → DoMatch lead cells ⊎ (DoMatch lead cells → ⊥)
match_or_not lead cells = elim (begins_or_not lead cells) [
  | inl s ↦ inl (inl s)
  | inr other ↦ elim (begins_or_not cells lead) [
    | inl b ↦ inl (inr b)
    | inr none ↦ inr (λ m. elim m [ inl s ↦ other s | inr b ↦ none b ])
  ]
]

-- the lead and the cells exchanged
pub match_back : (lead cells : List ℕ) → DoMatch lead cells → DoMatch cells lead
match_back lead cells m = elim m [ inl s ↦ inr s | inr b ↦ inl b ]

pub unmatched_followed : (pairs : List NumberPair) (ahead : ℕ) (lead : List ℕ) (e : Edge) → (DoMatch lead e.cells → ⊥) → IsFollowed pairs ahead lead e
unmatched_followed pairs ahead lead e other = record {
  still = λ rest longer. absurd (other (inl (rest, longer)));
  swapped = λ rest some shorter. absurd (other (inr (rest, shorter)));
}
