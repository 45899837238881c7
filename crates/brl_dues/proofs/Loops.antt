-- Steps of the loops over characters and rules, over plain lists.
use Rattle.std.proofs.Common.{◌≡◌, ℕ, zero, suc, ◌+◌, ◌<◌, ◌≤◌, false, ◌&&◌, List, [], ◌∷◌, ◌++◌, length, take, drop, map, nat_eq, get_or, set, refl, sym, ap, ap₂, ◌∙◌, cond, arith, append_assoc, append-nil, drop_of_length-le, drop-cons}
use Rattle.std.proofs.lemmas.List.{take_all, take_more}
use Rattle.std.proofs.lemmas.Grind.{flat_map-append}
use Rattle.std.specs.List.{flat_map}
use Rattle.brl_pairs.specs.declared.step.Step.{Step}
use Rattle.brl_rules.specs.declared.class.Class.{Class}
use Rattle.brl_rules.specs.declared.rule.Rule.{Rule}
use Rattle.brl_rules.specs.Places.{after_of, before_of, holds}
use Rattle.brl_rules.specs.TableView.{TableView}
use Rattle.brl_states.specs.declared.dues_state.DuesState.{DuesState}
use Rattle.brl_dues.specs.LetterView.{LetterView}
use Rattle.brl_dues.specs.Letters.{begins_with, cased_steps, is_taken, own_step, rule_step, steps_found, with_rule}
use Rattle.brl_dues.specs.Steps.{with_steps}
use Rattle.brl_rules.proofs.Facts.{and-false, nat_eq-sym}

-- each of the first elements, up to this place, is changed, and has given what it gives
pub record Updated {X Y : Type 0} (f : X → X) (g : X → List Y) (xs : List X) (i : ℕ) (now : List X) (old new : List Y) : Type 0 where
  pub updated : now ≡ map f (take i xs) ++ drop i xs
  pub given : new ≡ old ++ flat_map g (take i xs)

pub updated-none : {X Y : Type 0} (f : X → X) (g : X → List Y) (xs now : List X) (old : List Y) → now ≡ xs → Updated f g xs 0 now old old
updated-none f g xs now old e = record { updated = e; given = sym (append-nil old) }

module _ {X Y : Type 0} (f : X → X) (g : X → List Y) where
  get-updated : (xs : List X) (i : ℕ) (d : X) → get_or (map f (take i xs) ++ drop i xs) i d ≡ get_or xs i d
  get-updated [] zero d = refl
  get-updated [] (suc i) d = refl
  get-updated (x ∷ xs) zero d = refl
  get-updated (x ∷ xs) (suc i) d = get-updated xs i d

  set-updated : (xs : List X) (i : ℕ) (y d : X) → i < length xs → y ≡ f (get_or xs i d) → set (map f (take i xs) ++ drop i xs) i y ≡ map f (take (i + 1) xs) ++ drop (i + 1) xs
  set-updated [] i y d h e = absurd (omega (arith, h))
  set-updated (x ∷ xs) zero y d h e = ap (λ z. z ∷ xs) e
  set-updated (x ∷ xs) (suc i) y d h e =
      ap (λ l. f x ∷ l) (set-updated xs i y d (omega (arith, h)) e)
      ∙ ap (λ k. map f (take k (x ∷ xs)) ++ drop k (x ∷ xs)) (let n : suc (i + 1) ≡ suc i + 1 = omega arith in n)

  length-updated : (xs : List X) (i : ℕ) → length (map f (take i xs) ++ drop i xs) ≡ length xs
  length-updated [] zero = refl
  length-updated [] (suc i) = refl
  length-updated (x ∷ xs) zero = refl
  length-updated (x ∷ xs) (suc i) = ap suc (length-updated xs i)

  given-more : (xs : List X) (i : ℕ) (d : X) → i < length xs → flat_map g (take (i + 1) xs) ≡ flat_map g (take i xs) ++ g (get_or xs i d)
  given-more xs i d h = ap (flat_map g) (take_more xs i d h) ∙ flat_map-append g (take i xs) (get_or xs i d ∷ []) ∙ ap (λ l. flat_map g (take i xs) ++ l) (append-nil (g (get_or xs i d)))

  pub updated-more : (xs : List X) (i : ℕ) (now next : List X) (old mid new : List Y) (d y : X) → i < length now → y ≡ f (get_or now i d) → next ≡ set now i y
      → new ≡ mid ++ g (get_or now i d) → Updated f g xs i now old mid → Updated f g xs (i + 1) next old new
  updated-more xs i now next old mid new d y h turn put gave had =
      let within : i < length xs = (let a = ap length had.updated in let b = length-updated xs i in omega (arith, h, a, b)) in
      let same : get_or now i d ≡ get_or xs i d = ap (λ l. get_or l i d) had.updated ∙ get-updated xs i d in
      record {
        updated = put ∙ ap (λ l. set l i y) had.updated ∙ set-updated xs i y d within (turn ∙ ap f same);
        given =
            gave ∙ ap₂ (λ l z. l ++ g z) had.given same ∙ append_assoc old (flat_map g (take i xs)) (g (get_or xs i d))
            ∙ ap (λ l. old ++ l) (sym (given-more xs i d within));
      }

  pub updated-length : (xs : List X) (i : ℕ) (now : List X) (old new : List Y) → Updated f g xs i now old new → length now ≡ length xs
  updated-length xs i now old new had = ap length had.updated ∙ length-updated xs i

  pub updated-all : (xs : List X) (i : ℕ) (now : List X) (old new : List Y) → length now ≤ i → Updated f g xs i now old new → now ≡ map f xs
  updated-all xs i now old new h had =
      let n = updated-length xs i now old new had in
      let m : length xs ≤ i = omega (arith, h, n) in
      had.updated ∙ ap₂ (λ a b. map f a ++ b) (take_all i xs m) (drop_of_length-le xs m) ∙ append-nil (map f xs)

  pub given-all : (xs : List X) (i : ℕ) (now : List X) (old new : List Y) → length now ≤ i → Updated f g xs i now old new → new ≡ old ++ flat_map g xs
  given-all xs i now old new h had =
      let n = updated-length xs i now old new had in
      let m : length xs ≤ i = omega (arith, h, n) in
      had.given ∙ ap (λ l. old ++ flat_map g l) (take_all i xs m)

pub put-back : {X : Type 0} (n : ℕ) (items old whole : List X) → length items ≡ length old → n ≡ length old → items ≡ whole → take n (items ++ drop (length items) old) ≡ whole
put-back n items old whole h k e =
    ap (λ l. take n (items ++ l)) (drop_of_length-le old (omega (arith, h))) ∙ ap (take n) (append-nil items) ∙ take_all n items (omega (arith, h, k)) ∙ e

-- ---- A rule that may not be taken

pub not-here : (before : Class) (r : Rule) (l : LetterView) → holds (before_of r.place) before ≡ false → is_taken before r l ≡ false
not-here before r l h = ap (λ b. b && begins_with l.fold r.chars) h

pub no-chars : (before : Class) (r : Rule) (l : LetterView) → r.chars ≡ [] → is_taken before r l ≡ false
no-chars before r l h = ap (λ chars. holds (before_of r.place) before && begins_with l.fold chars) h ∙ and-false (holds (before_of r.place) before)

pub other-fold : (before : Class) (r : Rule) (l : LetterView) → nat_eq l.fold (get_or r.chars 0 0) ≡ false → is_taken before r l ≡ false
other-fold before r l = at r.chars
  where
    at : (chars : List ℕ) → nat_eq l.fold (get_or chars 0 0) ≡ false → (holds (before_of r.place) before && begins_with l.fold chars) ≡ false
    at [] h = and-false (holds (before_of r.place) before)
    at (first ∷ others) h = ap (λ b. holds (before_of r.place) before && b) (nat_eq-sym first l.fold ∙ h) ∙ and-false (holds (before_of r.place) before)

module _ (t : TableView) (s : DuesState) (number : ℕ) (r : Rule) where
  pub same-letter : (l : LetterView) → is_taken s.before r l ≡ false → with_rule s.before r l ≡ l
  same-letter l h = ap (λ b. cond b (record l { above = l.above ++ (drop 1 r.chars, after_of r.place s.before) ∷ [] }) l) h

  pub no-step : (l : LetterView) → is_taken s.before r l ≡ false → rule_step t s number r l ≡ []
  no-step l h = ap (λ b. cond b (with_steps [] (cased_steps t s l number (drop 1 r.chars) (after_of r.place s.before) r.cells)) []) h

  -- a rule that isn't taken is left out
  pub not-taken : (l now : LetterView) (listed new : List (Step DuesState)) → is_taken s.before r l ≡ false → now ≡ l → new ≡ listed
      → (now ≡ with_rule s.before r l) × (new ≡ listed ++ rule_step t s number r l)
  not-taken l now listed new h same none = (same ∙ sym (same-letter l h), none ∙ sym (append-nil listed) ∙ ap (λ x. listed ++ x) (sym (no-step l h)))

module _ (t : TableView) (s : DuesState) (number : ℕ) (r : Rule) (none : (l : LetterView) → is_taken s.before r l ≡ false) where
  pub same-letters : (ls : List LetterView) → ls ≡ map (with_rule s.before r) ls
  same-letters [] = refl
  same-letters (l ∷ ls) = ap₂ (λ a b. a ∷ b) (sym (same-letter t s number r l (none l))) (same-letters ls)

  no-steps : (ls : List LetterView) → flat_map (rule_step t s number r) ls ≡ []
  no-steps [] = refl
  no-steps (l ∷ ls) = ap₂ (λ a b. a ++ b) (no-step t s number r l (none l)) (no-steps ls)

  pub none-listed : (listed : List (Step DuesState)) (ls : List LetterView) → listed ≡ listed ++ flat_map (rule_step t s number r) ls
  none-listed listed ls = sym (append-nil listed) ∙ ap (λ l. listed ++ l) (sym (no-steps ls))

-- ---- One rule after another, and one own definition after another

pub rules-next : (t : TableView) (s : DuesState) (rules : List Rule) (n : ℕ) (r : Rule) (listed next whole : List (Step DuesState)) (ls updated : List LetterView) → n < length rules → r ≡ get_or rules n r
    → listed ++ steps_found t s n (drop n rules) ls ≡ whole → updated ≡ map (with_rule s.before r) ls → next ≡ listed ++ flat_map (rule_step t s n r) ls
    → next ++ steps_found t s (n + 1) (drop (n + 1) rules) updated ≡ whole
rules-next t s rules n r listed next whole ls updated h is had turn gave =
    let front : r ∷ drop (n + 1) rules ≡ drop n rules =
    ap₂ (λ x k. x ∷ drop k rules) is (let e : n + 1 ≡ suc n = omega arith in e) ∙ sym (drop-cons rules n r h) in
    ap₂ (λ a b. a ++ steps_found t s (n + 1) (drop (n + 1) rules) b) gave turn
    ∙ append_assoc listed (flat_map (rule_step t s n r) ls) (steps_found t s (n + 1) (drop (n + 1) rules) (map (with_rule s.before r) ls))
    ∙ ap (λ l. listed ++ steps_found t s n l ls) front ∙ had

pub rules-all : (t : TableView) (s : DuesState) (rules : List Rule) (n : ℕ) (listed whole : List (Step DuesState)) (ls : List LetterView) → length rules ≤ n
    → listed ++ steps_found t s n (drop n rules) ls ≡ whole → listed ++ flat_map (own_step t s) ls ≡ whole
rules-all t s rules n listed whole ls h had = ap (λ l. listed ++ steps_found t s n l ls) (sym (drop_of_length-le rules h)) ∙ had

pub own-next : {X Y : Type 0} (f : X → List Y) (xs : List X) (i : ℕ) (d : X) (listed next whole : List Y) → i < length xs → listed ++ flat_map f (drop i xs) ≡ whole → next ≡ listed ++ f (get_or xs i d)
    → next ++ flat_map f (drop (i + 1) xs) ≡ whole
own-next f xs i d listed next whole h had gave =
    let front : drop i xs ≡ get_or xs i d ∷ drop (i + 1) xs =
    drop-cons xs i d h ∙ ap (λ k. get_or xs i d ∷ drop k xs) (let e : suc i ≡ i + 1 = omega arith in e) in
    ap (λ l. l ++ flat_map f (drop (i + 1) xs)) gave ∙ append_assoc listed (f (get_or xs i d)) (flat_map f (drop (i + 1) xs)) ∙ ap (λ l. listed ++ flat_map f l) (sym front) ∙ had

pub own-all : {X Y : Type 0} (f : X → List Y) (xs : List X) (i : ℕ) (listed whole : List Y) → length xs ≤ i → listed ++ flat_map f (drop i xs) ≡ whole → listed ≡ whole
own-all f xs i listed whole h had = sym (append-nil listed) ∙ ap (λ l. listed ++ flat_map f l) (sym (drop_of_length-le xs h)) ∙ had
