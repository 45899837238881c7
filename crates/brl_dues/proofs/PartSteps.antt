-- The steps of a state are those of its parts: they are found character by character, those of one
-- rule in the order of the characters.
use Rattle.std.proofs.Common.{◌≡◌, ℕ, ◌+◌, ◌≤◌, Bool, true, false, List, [], ◌∷◌, ◌++◌, ◌⊎◌, inl, inr, Option, Some, None, length, map, filter, drop, refl, sym, ap, ap₂, ◌∙◌, cond, nat_eq, arith, append-nil, zero-add}
use Rattle.std.proofs.lemmas.Bool.{eqb-true, ne_eqb}
use Rattle.std.proofs.lemmas.List.Elements.{filter-append}
use Rattle.std.proofs.lemmas.List.Folds.{flat_map-map}
use Rattle.std.specs.List.{flat_map}
use Rattle.std.specs.Option.{option_map_or}
use Rattle.brl_pairs.proofs.Filtered.{filter-flat_map, filter-twice}
use Rattle.brl_pairs.proofs.Listing.{IsIn, in-append, from-flat_map}
use Rattle.brl_pairs.specs.Parted.{ArePartsOf, of_rule}
use Rattle.brl_pairs.specs.declared.step.Step.{Step}
use Rattle.brl_rules.specs.declared.place.Cond.{Cond}
use Rattle.brl_rules.specs.declared.place.Cond.TheVariants.{Any}
use Rattle.brl_rules.specs.declared.rule.Info.{Info}
use Rattle.brl_rules.specs.declared.rule.Rule.{Rule}
use Rattle.brl_rules.specs.Choice.{own}
use Rattle.brl_rules.specs.Places.{after_of}
use Rattle.brl_rules.specs.TableView.{TableView, info_of}
use Rattle.brl_rules.specs.Text.{fold_of}
use Rattle.brl_states.specs.declared.dues_state.DuesState.{DuesState}
use Rattle.brl_dues.specs.Capitals.{choices, further, letters}
use Rattle.brl_dues.specs.Carry.{gathered}
use Rattle.brl_dues.specs.LetterView.{LetterView}
use Rattle.brl_dues.specs.Letters.{bars_from, caps_run_step, cased_steps, is_taken, left_by, letter_form, letter_step, may_come, new_letter, new_letters, next_step, own_step, rule_step, steps_found, with_rule}
use Rattle.brl_states.specs.DuesContext.{context_of}
use Rattle.brl_dues.specs.Parts.{asked_context, part_in, state_parts, steps_of_part}
use Rattle.brl_dues.specs.Steps.{dues_steps, with_steps}
use Rattle.brl_dues.proofs.Finding.{all-found, flat_map-none, flat_map-same}
use Rattle.brl_dues.proofs.Forms.{from-step_if}
use Rattle.brl_dues.proofs.Repeats.{from-with_steps}
use Rattle.brl_dues.proofs.Alike.{same-found}
use Rattle.brl_dues.proofs.Asked.{alike-asked}

-- ---- The numbers of steps

module _ (t : TableView) (s : DuesState) (x : Step DuesState) where
  letter-number : (l : LetterView) (number : ℕ) (run : Bool) (others : List ℕ) (after : Cond) (cells : List ℕ) → IsIn x (letter_step t s l number run others after cells) → x.rule ≡ number
  letter-number l number run others after cells h = at (further t s.before run (l.character ∷ others)) h
    where
      at : (o : Option Cond) → IsIn x (option_map_or (next_step t s l number run others after cells) o []) → x.rule ≡ number
      at None k = absurd k
      at (Some next) k = (
          let w = from-step_if t s (letter_form l number run next others after cells) (gathered (left_by t s.before l run next others after)) x k in
          ap (λ (y : Step DuesState). y.rule) w.2)

  cased-number : (l : LetterView) (number : ℕ) (others : List ℕ) (after : Cond) (cells : List ℕ) → IsIn x (with_steps [] (cased_steps t s l number others after cells)) → x.rule ≡ number
  cased-number l number others after cells h =
      let caps = flat_map (caps_run_step t s l number after cells) (choices t others) in
      let one = letter_step t s l number false others after cells in
      elim (from-with_steps [] (caps ++ one) x h) [
        | inl none ↦ absurd none
        | inr k ↦ elim (in-append x caps one k) [
          | inl i ↦ (let m = from-flat_map (caps_run_step t s l number after cells) x (choices t others) i in letter-number l number true m.0 after cells m.2)
          | inr i ↦ letter-number l number false others after cells i
        ]
      ]

  rule-number : (number : ℕ) (r : Rule) (l : LetterView) → IsIn x (rule_step t s number r l) → x.rule ≡ number
  rule-number number r l h = at (is_taken s.before r l) h
    where
      at : (b : Bool) → IsIn x (cond b (with_steps [] (cased_steps t s l number (drop 1 r.chars) (after_of r.place s.before) r.cells)) []) → x.rule ≡ number
      at true k = cased-number l number (drop 1 r.chars) (after_of r.place s.before) r.cells k
      at false k = absurd k

  own-number : (l : LetterView) → IsIn x (own_step t s l) → length t.rules ≤ x.rule
  own-number l h =
      let number : x.rule ≡ length t.rules + option_map_or (λ (info : Info). info.number) (info_of t l.character) 0 =
      cased-number l (own t (l.character ∷ [])).number [] Any (own t (l.character ∷ [])).cells h in
      omega (arith, number)

  found-number : (number : ℕ) (rules : List Rule) (found : List LetterView) → number + length rules ≡ length t.rules → IsIn x (steps_found t s number rules found) → number ≤ x.rule
  found-number number [] found e h = (
      let m = from-flat_map (own_step t s) x found h in
      let least = own-number m.0 m.2 in
      omega (arith, e, least))
  found-number number (r ∷ rules) found e h = elim (in-append x (flat_map (rule_step t s number r) found) (steps_found t s (number + 1) rules (map (with_rule s.before r) found)) h) [
    | inl i ↦ (
        let m = from-flat_map (rule_step t s number r) x found i in
        let is = rule-number number r m.0 m.2 in
        omega (arith, is))
    | inr i ↦ (
        let more = found-number (number + 1) rules (map (with_rule s.before r) found) (omega (arith, e)) i in
        omega (arith, more))
  ]

-- ---- Of one rule

-- no step has this number
none-of : {S : Type 0} (number : ℕ) (xs : List (Step S)) → ((x : Step S) → IsIn x xs → nat_eq number x.rule ≡ false) → of_rule number xs ≡ []
none-of number [] h = refl
none-of number (x ∷ xs) h = ap (λ b. cond b (x ∷ of_rule number xs) (of_rule number xs)) (h x (inl refl)) ∙ none-of number xs (λ y i. h y (inr i))

-- where all lists of one function are empty, those of both can be joined one by one
one-by-one : {X Y : Type 0} (f g : X → List Y) → ((x : X) → f x ≡ []) ⊎ ((x : X) → g x ≡ []) → (xs : List X) → flat_map f xs ++ flat_map g xs ≡ flat_map (λ x. f x ++ g x) xs
one-by-one f g (inl none) xs =
    ap (λ l. l ++ flat_map g xs) (flat_map-none f none xs)
    ∙ sym (flat_map-same (λ x. f x ++ g x) g (λ x. ap (λ l. l ++ g x) (none x)) xs)
one-by-one f g (inr none) xs =
    ap (λ l. flat_map f xs ++ l) (flat_map-none g none xs) ∙ append-nil (flat_map f xs)
    ∙ sym (flat_map-same (λ x. f x ++ g x) f (λ x. ap (λ l. f x ++ l) (none x) ∙ append-nil (f x)) xs)

module _ (t : TableView) (s : DuesState) (number : ℕ) where
  abbrev has_number : Step DuesState → Bool
  has_number x = nat_eq number x.rule

  -- what one letter has of a rule and of those after it
  abbrev rest_of : ℕ → List Rule → LetterView → List (Step DuesState)
  rest_of k rules l = steps_found t s k rules (l ∷ [])

  -- a rule has no steps of another number, and the rules after it have none of its own
  apart : (k : ℕ) (r : Rule) (rules : List Rule) → k + length (r ∷ rules) ≡ length t.rules
      → ((l : LetterView) → of_rule number (rule_step t s k r l) ≡ []) ⊎ ((l : LetterView) → of_rule number (rest_of (k + 1) rules (with_rule s.before r l)) ≡ [])
  apart k r rules e = at (nat_eq number k) refl
    where
      at : (b : Bool) → nat_eq number k ≡ b
          → ((l : LetterView) → of_rule number (rule_step t s k r l) ≡ []) ⊎ ((l : LetterView) → of_rule number (rest_of (k + 1) rules (with_rule s.before r l)) ≡ [])
      at true is =
          inr (λ l. none-of number (rest_of (k + 1) rules (with_rule s.before r l))
          (λ x i. ne_eqb number x.rule
          (λ same. let least = found-number t s x (k + 1) rules (with_rule s.before r l ∷ []) (omega (arith, e)) i in let here = eqb-true number k is in omega (arith, least, here, same))))
      at false is = inl (λ l. none-of number (rule_step t s k r l) (λ x i. ap (nat_eq number) (rule-number t s x k r l i) ∙ is))

  -- the steps of one rule, letter by letter
  by-letter : (k : ℕ) (rules : List Rule) → k + length rules ≡ length t.rules → (found : List LetterView)
      → of_rule number (steps_found t s k rules found) ≡ flat_map (λ l. of_rule number (rest_of k rules l)) found
  by-letter k [] e found =
      filter-flat_map has_number (own_step t s) found
      ∙ flat_map-same (λ l. of_rule number (own_step t s l)) (λ l. of_rule number (rest_of k [] l)) (λ l. ap (of_rule number) (sym (append-nil (own_step t s l)))) found
  by-letter k (r ∷ rules) e found =
      let here = λ (l : LetterView). of_rule number (rule_step t s k r l) in
      let later = λ (l : LetterView). of_rule number (rest_of (k + 1) rules (with_rule s.before r l)) in
      filter-append has_number (flat_map (rule_step t s k r) found) (steps_found t s (k + 1) rules (map (with_rule s.before r) found))
      ∙ ap₂ (λ a b. a ++ b) (filter-flat_map has_number (rule_step t s k r) found)
      (by-letter (k + 1) rules (omega (arith, e)) (map (with_rule s.before r) found)
      ∙ flat_map-map (λ l. of_rule number (rest_of (k + 1) rules l)) (with_rule s.before r) found)
      ∙ one-by-one here later (apart k r rules e) found
      ∙ flat_map-same (λ l. here l ++ later l) (λ l. of_rule number (rest_of k (r ∷ rules) l))
      (λ l. sym
      (filter-append has_number (rule_step t s k r l ++ []) (rest_of (k + 1) rules (with_rule s.before r l))
      ∙ ap (λ x. of_rule number x ++ later l) (append-nil (rule_step t s k r l)))) found

-- ---- Parts

-- the steps of a state that begin with a character are those of its part
same-part : (t : TableView) (s : DuesState) (c : ℕ) → steps_found t s 0 t.rules (new_letter t s.dues c ∷ []) ≡ steps_of_part t (part_in (asked_context t (context_of s)) s.dues c)
same-part t s c =
    let part = part_in (asked_context t (context_of s)) s.dues c in
    same-found t s part.state (alike-asked t s (filter (bars_from c) s.dues)) 0 t.rules (new_letter t s.dues c ∷ [])
    ∙ ap (λ bars. steps_found t part.state 0 t.rules (record { character = c; fold = fold_of t c; bars = bars; above = [] } ∷ [])) (sym (filter-twice (bars_from c) s.dues))

pub are-parts : (t : TableView) (s : DuesState) → ArePartsOf (steps_of_part t) (dues_steps t s) (state_parts t s)
are-parts t s number =
    let coming = filter (may_come t s.dues) (letters t) in
    let part = part_in (asked_context t (context_of s)) s.dues in
    ap (of_rule number) (all-found t s)
    ∙ by-letter t s number 0 t.rules (zero-add (length t.rules)) (new_letters t s.dues)
    ∙ flat_map-map (λ l. of_rule number (steps_found t s 0 t.rules (l ∷ []))) (new_letter t s.dues) coming
    ∙ flat_map-same (λ c. of_rule number (steps_found t s 0 t.rules (new_letter t s.dues c ∷ []))) (λ c. of_rule number (steps_of_part t (part c))) (λ c. ap (of_rule number) (same-part t s c)) coming
    ∙ sym (flat_map-map (λ p. of_rule number (steps_of_part t p)) part coming)
    ∙ sym (filter-flat_map (has_number t s number) (steps_of_part t) (map part coming))
