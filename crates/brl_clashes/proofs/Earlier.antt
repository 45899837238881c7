-- The clashes of a section are known in the next one, whose texts use as many characters or more.
use Rattle.std.proofs.Common.{◌≡◌, ◌∙◌, ◌+◌, ◌≤◌, ℕ, zero, suc, All, Bool, true, false, List, [], ◌∷◌, ap, arith, drop, inl, inr, length, not, refl, subst, sym}
use Rattle.std.specs.Prelude.{◌&&◌, ◌||◌, nat_eq}
use Rattle.std.specs.List.{list_any}
use Rattle.std.proofs.lemmas.Bool.{and_from, and_parts, or_cases}
use Rattle.std.proofs.lemmas.List.Elements.{All-nil, All-weaker}
use Rattle.std.proofs.lemmas.List.Folds.{list_any-append}
use Rattle.std.proofs.lemmas.Map.Views.{any-filter_same}
use Rattle.brl_rules.proofs.Facts.{or-true, same_number}
use Rattle.brl_clashes.specs.Finding.{AreKnownAt}
use Rattle.brl_clashes.specs.Kinds.{is_of, kept, left_out_in, of_kinds, section_kinds}
use Rattle.brl_clashes.specs.Sections.{AreListed, IsSection, clashes_of, is_whole}
use Rattle.brl_clashes.specs.Showing.{Asked}
use Rattle.brl_clashes.specs.declared.kind.Kind.{Kind}
use Rattle.brl_clashes.specs.declared.section.Section.{Section}
use Rattle.brl_rules.specs.TableView.{TableView}
use Rattle.brl_search.specs.Clashes.{IsRuleClash}
use Rattle.brl_search.specs.declared.table_clashes.ClashList.{ClashList}
use Rattle.brl_search.specs.declared.table_clashes.ClashList.TheVariants.{Complete, Partial}
use Rattle.brl_search.specs.declared.table_clashes.RuleClash.{RuleClash}
use Rattle.brl_without.specs.LeftOut.{is_left_out, uses_none}

-- ---- Fewer characters

module _ (more less : List ℕ) (within : (c : ℕ) → is_left_out less c ≡ true → is_left_out more c ≡ true) where
  stays_in : (c : ℕ) → not (is_left_out more c) ≡ true → not (is_left_out less c) ≡ true
  stays_in c out = cases (is_left_out less c) refl
    where
      cases : (b : Bool) → is_left_out less c ≡ b → not b ≡ true
      cases true e = absurd (let there = within c e in cc)
      cases false e = refl

  -- a text that uses none of more characters uses none of these
  pub uses_fewer : (text : List ℕ) → uses_none more text ≡ true → uses_none less text ≡ true
  uses_fewer [] none = refl
  uses_fewer (c ∷ text) none =
      let (here, rest) = and_parts (not (is_left_out more c)) (uses_none more text) none in
      and_from _ _ (stays_in c here) (uses_fewer text rest)

  -- so a clash at a pair of rules is one where these are left out
  pub clash_of_fewer : (t : TableView) (c : RuleClash) → IsRuleClash more t c → IsRuleClash less t c
  clash_of_fewer t c h = record {
    in_order = h.in_order;
    clash = record {
      clash = h.clash.clash;
      left_without = uses_fewer c.clash.left h.clash.left_without;
      right_without = uses_fewer c.clash.right h.clash.right_without;
    };
    diverge = h.diverge;
    small = h.small;
  }

-- ---- Later sections

-- what is found among the elements from a place on is found from the place before it on
found_before : {X : Type 0} (p : X → Bool) (xs : List X) (n : ℕ) → list_any p (drop (suc n) xs) ≡ true → list_any p (drop n xs) ≡ true
found_before p [] n h = absurd cc
found_before p (x ∷ xs) zero h = ap (λ (b : Bool). p x || b) h ∙ or-true (p x)
found_before p (x ∷ xs) (suc n) h = found_before p xs n h

module _ (t : TableView) (left_out : List ℕ) (place : ℕ) where
  abbrev later : ℕ → List ℕ
  later n = of_kinds t (drop n (section_kinds t left_out)) (kept t left_out)

  abbrev is_later : ℕ → ℕ → Bool
  is_later n c = list_any (λ (kind : Kind). is_of t kind c) (drop n (section_kinds t left_out))

  -- a character is among those of later sections where it is one of the table, of their kinds
  later_as_test : (n c : ℕ) → is_left_out (later n) c ≡ (is_later n c && is_left_out (kept t left_out) c)
  later_as_test n c = any-filter_same (nat_eq c) (is_later n) (is_later n c) (λ k same. ap (is_later n) (sym (same_number c k same))) (kept t left_out)

  later_before : (n c : ℕ) → is_left_out (later (suc n)) c ≡ true → is_left_out (later n) c ≡ true
  later_before n c h =
      let (of_kind, there) = and_parts (is_later (suc n) c) (is_left_out (kept t left_out) c) (sym (later_as_test (suc n) c) ∙ h) in
      later_as_test n c ∙ and_from _ _ (found_before (λ (kind : Kind). is_of t kind c) (section_kinds t left_out) n of_kind) there

  -- the next section leaves out no other characters
  no_others : (c : ℕ) → is_left_out (left_out_in t left_out (place + 1)) c ≡ true → is_left_out (left_out_in t left_out place) c ≡ true
  no_others c h = elim (or_cases (is_left_out left_out c) (is_left_out (later (place + 1 + 1)) c) (sym (list_any-append (nat_eq c) left_out (later (place + 1 + 1))) ∙ h)) [
    | inl own ↦ list_any-append (nat_eq c) left_out (later (place + 1)) ∙ ap (λ (b : Bool). b || is_left_out (later (place + 1)) c) own
    | inr other ↦
        let step : place + 1 + 1 ≡ suc (place + 1) = omega arith in
        let there = later_before (place + 1) c (subst (λ (n : ℕ). is_left_out (later n) c ≡ true) step other) in
        list_any-append (nat_eq c) left_out (later (place + 1)) ∙ ap (λ (b : Bool). is_left_out left_out c || b) there ∙ or-true (is_left_out left_out c)
  ]

-- a whole list has as many clashes as its limit at most
whole_list : (left_out : List ℕ) (t : TableView) (limit : ℕ) (found : ClashList) → AreListed left_out t limit found → is_whole found ≡ true
    → All (IsRuleClash left_out t) (clashes_of found) × (length (clashes_of found) ≤ limit)
whole_list left_out t limit (Complete list body) (inl are) whole = (are.0.each, are.1.few_rules)
whole_list left_out t limit (Partial list states pairs) (inl are) whole = absurd cc
whole_list left_out t limit found (inr none) whole =
    let size = ap length none.2 in
    (subst (All (IsRuleClash left_out t)) (sym none.2) (All-nil (IsRuleClash left_out t)), omega (arith, size))

-- nothing is known before the first section
pub none_known : (asked : Asked) → AreKnownAt asked 0 []
none_known asked = record { each = All-nil _; few = omega arith }

-- the clashes of a whole section are known in the next one
pub known_next : (asked : Asked) (place : ℕ) (s : Section) → IsSection asked.table asked.left_out asked.limit place s → is_whole s.found ≡ true → AreKnownAt asked (place + 1) (clashes_of s.found)
known_next asked place s is whole =
    let t = asked.table in
    let now = left_out_in t asked.left_out place in
    let next = left_out_in t asked.left_out (place + 1) in
    let list = whole_list now t asked.limit s.found is.clashes whole in
    record {
      each = All-weaker (IsRuleClash now t) (IsRuleClash next t) (clash_of_fewer now next (no_others t asked.left_out place) t) (clashes_of s.found) list.0;
      few = list.1;
    }
