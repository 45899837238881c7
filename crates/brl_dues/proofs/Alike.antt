-- What the steps of a state depend on, besides its dues.
use Rattle.std.proofs.Common.{◌≡◌, ℕ, ◌+◌, Bool, true, false, ◌&&◌, List, [], ◌∷◌, ◌++◌, Option, Some, None, map, drop, refl, sym, ap, ap₂, ◌∙◌, cond}
use Rattle.std.specs.List.{flat_map}
use Rattle.std.specs.Option.{option_map_or}
use Rattle.std.specs.Prelude.{is_some}
use Rattle.brl_pairs.specs.declared.step.Step.{Step}
use Rattle.brl_rules.specs.declared.place.Cond.{Cond}
use Rattle.brl_rules.specs.declared.place.Cond.TheVariants.{Any}
use Rattle.brl_rules.specs.declared.place.Place.{Place}
use Rattle.brl_rules.specs.declared.rule.Rule.{Rule}
use Rattle.brl_rules.specs.Choice.{own}
use Rattle.brl_rules.specs.Indicators.{indicators_before}
use Rattle.brl_rules.specs.Places.{after_of, before_of, holds}
use Rattle.brl_rules.specs.TableView.{TableView}
use Rattle.brl_rules.specs.Text.{context_after_all}
use Rattle.brl_states.specs.declared.due.Due.{Due}
use Rattle.brl_states.specs.declared.dues_state.DuesState.{DuesState}
use Rattle.brl_states.specs.DuesContext.{context_of, state_in}
use Rattle.brl_dues.specs.Capitals.{choices, further}
use Rattle.brl_dues.specs.Carry.{carry, carry_bar, carry_capitals, gathered, need}
use Rattle.brl_dues.specs.CaseForm.{CaseForm}
use Rattle.brl_dues.specs.LetterView.{LetterView}
use Rattle.brl_dues.specs.Letters.{begins_with, cased_steps, is_taken, left_by, letter_form, letter_step, next_step, own_step, rule_step, steps_found, with_rule}
use Rattle.brl_dues.specs.Steps.{step_if, step_of, with_steps}

-- two states have the same steps where the same dues are left
pub record AreAlike (t : TableView) (s z : DuesState) : Type 0 where
  pub before : (place : Place) → holds (before_of place) s.before ≡ holds (before_of place) z.before
  pub after : (place : Place) → after_of place s.before ≡ after_of place z.before
  pub follows : (run : Bool) (chars : List ℕ) → further t s.before run chars ≡ further t z.before run chars
  pub signs : (run : Bool) (reads : List ℕ) → indicators_before t (context_of s) run reads ≡ indicators_before t (context_of z) run reads
  pub behind : (c : ℕ) (others : List ℕ) → context_after_all t (context_of s) (c ∷ others) ≡ context_after_all t (context_of z) (c ∷ others)

module _ (t : TableView) (s z : DuesState) (alike : AreAlike t s z) where
  pub same-step : (c : ℕ) (others : List ℕ) (f : CaseForm) (dues : List Due) → f.reads ≡ c ∷ others → step_of t s f dues ≡ step_of t z f dues
  same-step c others f dues e =
      let behind = ap (context_after_all t (context_of s)) e ∙ alike.behind c others ∙ ap (context_after_all t (context_of z)) (sym e) in
      λ i. record { rule = f.number; reads = f.reads; cells = alike.signs f.run f.reads i ++ f.cells; next = state_in (behind i) dues }

  same-step_if : (c : ℕ) (others : List ℕ) (f : CaseForm) (o : Option (List Due)) → f.reads ≡ c ∷ others → step_if t s f o ≡ step_if t z f o
  same-step_if c others f None e = refl
  same-step_if c others f (Some dues) e = ap (λ x. x ∷ []) (same-step c others f dues e)

  module _ (l : LetterView) (number : ℕ) (after : Cond) (cells : List ℕ) where
    same-left : (run : Bool) (others : List ℕ) (next : Cond) → left_by t s.before l run next others after ≡ left_by t z.before l run next others after
    same-left run others next =
        ap (λ (f : Bool → List ℕ → Option Cond). map (carry t (l.character ∷ others)) l.bars ++ (need after ∷ need next
        ∷ flat_map (λ (a : List ℕ × Cond). cond run (carry_capitals t others a.0 a.1) (cond (is_some (f false (l.character ∷ a.0))) (carry_bar t others a.0 a.1 ∷ []) [])) l.above))
        (λ i. λ b cs. alike.follows b cs i)

    same-next : (run : Bool) (others : List ℕ) (next : Cond) → next_step t s l number run others after cells next ≡ next_step t z l number run others after cells next
    same-next run others next =
        ap (λ x. step_if t s (letter_form l number run next others after cells) (gathered x)) (same-left run others next)
        ∙ same-step_if l.character others (letter_form l number run next others after cells) (gathered (left_by t z.before l run next others after)) refl

    same-letter : (run : Bool) (others : List ℕ) → letter_step t s l number run others after cells ≡ letter_step t z l number run others after cells
    same-letter run others =
        ap₂ (λ (f : Cond → List (Step DuesState)) (o : Option Cond). option_map_or f o []) (λ i. λ next. same-next run others next i) (alike.follows run (l.character ∷ others))

    same-cased : (others : List ℕ) → cased_steps t s l number others after cells ≡ cased_steps t z l number others after cells
    same-cased others =
        ap₂ (λ (f : List ℕ → List (Step DuesState)) (last : List (Step DuesState)). flat_map f (choices t others) ++ last) (λ i. λ text. same-letter true text i) (same-letter false others)

  same-rule : (number : ℕ) (r : Rule) (l : LetterView) → rule_step t s number r l ≡ rule_step t z number r l
  same-rule number r l =
      ap₂ (λ (b : Bool) (after : Cond). cond (b && begins_with l.fold r.chars) (with_steps [] (cased_steps t s l number (drop 1 r.chars) after r.cells)) []) (alike.before r.place) (alike.after r.place)
      ∙ ap (λ xs. cond (is_taken z.before r l) (with_steps [] xs) []) (same-cased l number (after_of r.place z.before) r.cells (drop 1 r.chars))

  same-with : (r : Rule) (l : LetterView) → with_rule s.before r l ≡ with_rule z.before r l
  same-with r l =
      ap₂ (λ (b : Bool) (after : Cond). cond (b && begins_with l.fold r.chars) (record l { above = l.above ++ (drop 1 r.chars, after) ∷ [] }) l) (alike.before r.place) (alike.after r.place)

  same-own : (l : LetterView) → own_step t s l ≡ own_step t z l
  same-own l = ap (with_steps []) (same-cased l (own t (l.character ∷ [])).number Any (own t (l.character ∷ [])).cells [])

  -- the same steps are found
  pub same-found : (number : ℕ) (rules : List Rule) (found : List LetterView) → steps_found t s number rules found ≡ steps_found t z number rules found
  same-found number [] found = ap (λ (f : LetterView → List (Step DuesState)). flat_map f found) (λ i. λ l. same-own l i)
  same-found number (r ∷ rules) found =
      ap₂ (λ a b. a ++ b)
      (ap (λ (f : LetterView → List (Step DuesState)). flat_map f found) (λ i. λ l. same-rule number r l i))
      (ap (λ (f : LetterView → LetterView). steps_found t s (number + 1) rules (map f found)) (λ i. λ l. same-with r l i)
      ∙ same-found (number + 1) rules (map (with_rule z.before r) found))
