-- Two states of whose contexts steps ask the same have the same forms, which owe the same.
use Rattle.std.proofs.Common.{◌≡◌, ℕ, Bool, true, false, List, [], ◌∷◌, ◌++◌, Option, is_some, length, map, refl, ap, ap₂, ◌∙◌, cond, nat_eq}
use Rattle.std.specs.List.{flat_map}
use Rattle.brl_rules.specs.declared.place.Cond.{Cond}
use Rattle.brl_rules.specs.declared.rule.Rule.{Rule}
use Rattle.brl_rules.specs.Places.{after_of, before_of, holds}
use Rattle.brl_rules.specs.TableView.{TableView}
use Rattle.brl_rules.specs.Text.{fold_of}
use Rattle.brl_dues.specs.declared.carry.Carried.{Carried}
use Rattle.brl_states.specs.declared.dues_state.DuesState.{DuesState}
use Rattle.brl_dues.specs.Capitals.{choices, letters}
use Rattle.brl_dues.specs.Carry.{bars_after, bars_to, carry_bar, carry_capitals, need}
use Rattle.brl_dues.specs.CaseForm.{CaseForm, cased, cased_if, form_if, groups, groups_from, groups_of, own_form, own_forms, rule_forms}
use Rattle.brl_dues.specs.Steps.{owed}
use Rattle.brl_dues.proofs.Alike.{AreAlike}

module _ (t : TableView) (s z : DuesState) (alike : AreAlike t s z) where
  -- ---- Forms

  same-rule : (above : List Rule) (r : Rule) (run : Bool) (reads : List ℕ) → rule_forms t s.before above r run reads ≡ rule_forms t z.before above r run reads
  same-rule above r run reads =
      ap₂ (λ (after : Cond) (o : Option Cond). form_if (λ next. record { number = length above; reads = reads; run = run; next = next; after = after; cells = r.cells; above = above }) o)
      (alike.after r.place) (alike.follows run reads)

  same-cased : (above : List Rule) (r : Rule) (others : List ℕ) (c : ℕ) → cased t s.before above r others c ≡ cased t z.before above r others c
  same-cased above r others c =
      ap₂ (λ (f : List ℕ → List CaseForm) (last : List CaseForm). flat_map f (choices t others) ++ last)
      (λ i. λ chosen. same-rule above r true (c ∷ chosen) i) (same-rule above r false (c ∷ others))

  same-cased_if : (above : List Rule) (r : Rule) (chars : List ℕ) (c : ℕ) → cased_if t s.before above r chars c ≡ cased_if t z.before above r chars c
  same-cased_if above r [] c = refl
  same-cased_if above r (first ∷ others) c = ap (λ (l : List CaseForm). cond (nat_eq first (fold_of t c)) l []) (same-cased above r others c)

  same-groups_of : (above : List Rule) (r : Rule) → groups_of t s.before above r ≡ groups_of t z.before above r
  same-groups_of above r =
      ap₂ (λ (b : Bool) (f : ℕ → List CaseForm). cond b (map f (letters t)) []) (alike.before r.place) (λ i. λ c. same-cased_if above r r.chars c i)

  same-groups_from : (above rules : List Rule) → groups_from t s.before above rules ≡ groups_from t z.before above rules
  same-groups_from above [] = refl
  same-groups_from above (r ∷ rules) = ap₂ (λ a b. a ++ b) (same-groups_of above r) (same-groups_from (above ++ r ∷ []) rules)

  same-own : (c : ℕ) → own_forms t s.before c ≡ own_forms t z.before c
  same-own c = ap₂ (λ (o p : Option Cond). form_if (own_form t c true) o ++ form_if (own_form t c false) p) (alike.follows true (c ∷ [])) (alike.follows false (c ∷ []))

  pub same-groups : groups t s.before ≡ groups t z.before
  same-groups = ap₂ (λ (l : List (List CaseForm)) (f : ℕ → List CaseForm). l ++ map f (letters t)) (same-groups_from [] t.rules) (λ i. λ c. same-own c i)

  -- ---- What a step owes

  same-after : (run : Bool) (c : ℕ) (past chars : List ℕ) (after : Cond) → bars_after t s.before run c past chars after ≡ bars_after t z.before run c past chars after
  same-after run c past [] after = refl
  same-after run c past (first ∷ others) after =
      ap (λ (o : Option Cond). cond (nat_eq first (fold_of t c)) (cond run (carry_capitals t past others after) (cond (is_some o) (carry_bar t past others after ∷ []) [])) [])
      (alike.follows false (c ∷ others))

  same-bars : (run : Bool) (reads : List ℕ) (r : Rule) → bars_to t s.before run reads r ≡ bars_to t z.before run reads r
  same-bars run [] r = refl
  same-bars run (c ∷ past) r =
      ap₂ (λ (b : Bool) (after : Cond). cond b (bars_after t s.before run c past r.chars after) []) (alike.before r.place) (alike.after r.place)
      ∙ ap (λ (l : List Carried). cond (holds (before_of r.place) z.before) l []) (same-after run c past r.chars (after_of r.place z.before))

  pub same-owed : (f : CaseForm) → owed t s.before f ≡ owed t z.before f
  same-owed f = ap (λ (to : Rule → List Carried). need f.after ∷ need f.next ∷ flat_map to f.above) (λ i. λ r. same-bars f.run f.reads r i)
