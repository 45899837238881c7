-- The slips among the first rules, rule by rule.
use Rattle.std.proofs.Common.{◌≡◌, ◌∙◌, ◌+◌, ◌<◌, ◌≤◌, ◌++◌, ◌∷◌, ℕ, All, List, [], ap, subst, sym, refl, arith, length, map, get_or, inl, inr}
use Rattle.std.specs.List.{Contains}
use Rattle.std.proofs.lemmas.Bool.{cases_eq, cases_lt}
use Rattle.std.proofs.lemmas.List.{get_or_append_left, get_or_push, length_push, map-append}
use Rattle.std.proofs.lemmas.List.Elements.{All-nil, All-push, All-weaker, All-get_or, Contains-append_left, Contains-push}
use Rattle.brl_slips.specs.Slips.{AreSlips, IsShownSlip, IsSlipOf}
use Rattle.brl_slips.specs.declared.fault.Fault.{Fault}
use Rattle.brl_slips.specs.declared.lexicon.Lexicon.{Lexicon}
use Rattle.brl_slips.specs.declared.slip.Slip.{Slip}

-- the number of the rule of a slip
abbrev entry_of : Slip → ℕ
entry_of slip = slip.entry

-- a rule more, which is no slip
pub slips-more : (lexicon : Lexicon) (end : ℕ) (slips : List Slip) → AreSlips lexicon end slips
    → ((fault : Fault) (row : List ℕ) → IsSlipOf lexicon end fault row → ⊥) → AreSlips lexicon (end + 1) slips
slips-more lexicon end slips are none = record {
  each = are.each;
  within = All-weaker (λ (slip : Slip). slip.entry < end) (λ (slip : Slip). slip.entry < end + 1) (λ slip lt. omega (arith, lt)) slips are.within;
  ascending = are.ascending;
  whole = λ entry fault row lt is. elim (cases_eq entry end) [
    | inl last ↦ absurd (none fault row (subst (λ n. IsSlipOf lexicon n fault row) last is))
    | inr earlier ↦ are.whole entry fault row (omega (arith, lt, earlier)) is
  ];
}

-- a rule more, which is a slip
pub slips-push : (lexicon : Lexicon) (end : ℕ) (slips : List Slip) (slip : Slip) → AreSlips lexicon end slips
    → slip.entry ≡ end → IsShownSlip lexicon slip → AreSlips lexicon (end + 1) (slips ++ slip ∷ [])
slips-push lexicon end slips slip are at is = record {
  each = All-push (IsShownSlip lexicon) slips slip are.each is;
  within = All-push (λ (s : Slip). s.entry < end + 1) slips slip
      (All-weaker (λ (s : Slip). s.entry < end) (λ (s : Slip). s.entry < end + 1) (λ s lt. omega (arith, lt)) slips are.within) (omega (arith, at));
  ascending = λ k l d order lt. elim (cases_lt l (length slips)) [
    | inl within ↦ subst (λ n. n < entry_of (get_or (slips ++ slip ∷ []) l d)) (sym (ap entry_of (get_or_append_left slips (slip ∷ []) d k (omega (arith, order, within)))))
        (subst (λ n. entry_of (get_or slips k d) < n) (sym (ap entry_of (get_or_append_left slips (slip ∷ []) d l within))) (are.ascending k l d order within))
    | inr past ↦
        let last : length slips ≡ l = omega (arith, past, lt, length_push slips slip) in
        omega (
          arith,
          All-get_or (λ (s : Slip). s.entry < end) slips k d (omega (arith, order, last)) are.within,
          ap entry_of (get_or_append_left slips (slip ∷ []) d k (omega (arith, order, last))),
          ap entry_of (get_or_push slips slip d l last),
          at,
        )
  ];
  whole = λ entry fault row lt of. subst (λ es. Contains es entry) (sym (map-append entry_of slips (slip ∷ []))) (elim (cases_eq entry end) [
    | inl last ↦ subst (λ n. Contains (map entry_of slips ++ entry_of slip ∷ []) n) (at ∙ sym last) (Contains-push (map entry_of slips) (entry_of slip))
    | inr earlier ↦ Contains-append_left (map entry_of slips) (entry_of slip ∷ []) entry (are.whole entry fault row (omega (arith, lt, earlier)) of)
  ]);
}
