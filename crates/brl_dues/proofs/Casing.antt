-- The steps that take something with a character, in a run of capitals and out of one.
use Rattle.std.proofs.Common.{◌≡◌, ◌≢◌, ℕ, ◌-◌, ◌<◌, ◌≤◌, Bool, true, false, not, ◌&&◌, List, [], ◌∷◌, ◌++◌, Option, Some, None, length, map, take, drop, refl, sym, ap, ap₂, ◌∙◌, cond, nat_eq, subst, inl, append_assoc, arith, length-drop}
use Rattle.std.proofs.Math.Seq.{drop-append_seam}
use Rattle.std.proofs.lemmas.List.{take_all}
use Rattle.std.specs.Cmp.{first_so}
use Rattle.std.specs.List.{list_all, list_any}
use Rattle.std.specs.Option.{option_map_or}
use Rattle.brl_pairs.specs.declared.step.Step.{Step}
use Rattle.brl_rules.specs.declared.place.Cond.{Cond}
use Rattle.brl_rules.specs.TableView.{TableView}
use Rattle.brl_rules.specs.Text.{fold_of, has_word_capitals, is_capital}
use Rattle.brl_states.specs.declared.due.Due.{Due}
use Rattle.brl_states.specs.declared.dues_state.DuesState.{DuesState}
use Rattle.brl_dues.specs.Capitals.{any_if, capitals, choices, further, further_by, is_upper, letters, put_capital}
use Rattle.brl_dues.specs.Carry.{gathered}
use Rattle.brl_dues.specs.LetterView.{LetterView}
use Rattle.brl_dues.specs.Letters.{cased_steps, left_by, letter_form, letter_step, next_step, caps_run_step, caps_run_steps}
use Rattle.brl_dues.specs.Steps.{is_same_step, step_if, with_steps}
use Rattle.brl_dues.proofs.Finding.{flat_map-none}
use Rattle.brl_dues.proofs.Forms.{from-choices, from-put, from-step_if}
use Rattle.brl_states.proofs.Pairwise.{Pairwise, filter-Pairwise, flat_map-Pairwise, map-Pairwise}
use Rattle.brl_dues.proofs.Repeats.{apart, with_steps-apart, with_steps-append}
use Rattle.brl_pairs.proofs.Listing.{IsIn, from-flat_map}

-- a step, if there is one
abbrev pub one_if : Option (Step DuesState) → List (Step DuesState)
one_if o = option_map_or (λ (x : Step DuesState). x ∷ []) o []

-- ---- Choices differ

module _ (t : TableView) (single : Pairwise (λ a b. a ≢ b) (letters t)) where
  choices-differ : (chars : List ℕ) → Pairwise (λ a b. a ≢ b) (choices t chars)
  choices-differ [] = (tt, tt)
  choices-differ (a ∷ chars) =
      flat_map-Pairwise (λ a b. a ≢ b) (λ a b. a ≢ b) (put_capital t a (choices t chars)) (capitals t) (filter-Pairwise (λ a b. a ≢ b) (is_upper t) (letters t) single)
      (λ c i. put-differ c (nat_eq a (fold_of t c)) (choices-differ chars))
      (λ c d text other apart i j same. (
      let first = (from-put t a (choices t chars) c text i).1.2 in
      let second = (from-put t a (choices t chars) d other j).1.2 in
      apart (cc)))
    where
      put-differ : (c : ℕ) (b : Bool) → Pairwise (λ a b. a ≢ b) (choices t chars) → Pairwise (λ a b. a ≢ b) (cond b (map (λ text. c ∷ text) (choices t chars)) [])
      put-differ c true h = map-Pairwise (λ a b. a ≢ b) (λ a b. a ≢ b) (λ text. c ∷ text) (choices t chars) h (λ text other apart same. apart (cc))
      put-differ c false h = tt

module _ (t : TableView) (s : DuesState) (l : LetterView) (number : ℕ) (after : Cond) (cells : List ℕ) where
  -- what a step reads
  step-reads : (run : Bool) (others : List ℕ) (x : Step DuesState) → IsIn x (letter_step t s l number run others after cells) → x.reads ≡ l.character ∷ others
  step-reads run others x h = at (further t s.before run (l.character ∷ others)) h
    where
      at : (o : Option Cond) → IsIn x (option_map_or (next_step t s l number run others after cells) o []) → x.reads ≡ l.character ∷ others
      at None i = absurd i
      at (Some next) i = ap (λ (y : Step DuesState). y.reads) (from-step_if t s (letter_form l number run next others after cells) (gathered (left_by t s.before l run next others after)) x i).2

  -- a choice has one step at most
  run-differ : (chosen : List ℕ) → Pairwise (λ a b. a ≢ b) (caps_run_step t s l number after cells chosen)
  run-differ chosen = at (further t s.before true (l.character ∷ chosen))
    where
      one : (f : Cond) (o : Option (List Due)) → Pairwise (λ a b. a ≢ b) (step_if t s (letter_form l number true f chosen after cells) o)
      one f None = tt
      one f (Some dues) = (tt, tt)

      at : (o : Option Cond) → Pairwise (λ a b. a ≢ b) (option_map_or (next_step t s l number true chosen after cells) o [])
      at None = tt
      at (Some next) = one next (gathered (left_by t s.before l true next chosen after))

  runs-differ : Pairwise (λ a b. a ≢ b) (letters t) → (others : List ℕ) → Pairwise (λ a b. a ≢ b) (caps_run_steps t s l number after cells [] others)
  runs-differ single others =
      flat_map-Pairwise (λ a b. a ≢ b) (λ a b. a ≢ b) (caps_run_step t s l number after cells) (choices t others) (choices-differ t single others)
      (λ chosen i. run-differ chosen)
      (λ chosen other x y apart i j same. (
      let first = step-reads true chosen x i in
      let second = step-reads true other y j in
      let both : l.character ∷ chosen ≡ l.character ∷ other = sym first ∙ ap (λ (z : Step DuesState). z.reads) same ∙ second in
      let rest : chosen ≡ other = cc in
      apart rest))

  -- no run of capitals begins with this character
  pub none-in-run : (has_word_capitals t && is_upper t l.character) ≡ false → (chosen : List ℕ) → caps_run_step t s l number after cells chosen ≡ []
  none-in-run h chosen =
      ap (λ b. option_map_or (next_step t s l number true chosen after cells) (cond b (cond (is_capital s.before) (any_if true) (further_by t true chosen)) (any_if (not true))) []) h

  -- ---- The one out of a run

  -- where it reads several characters, the second is no capital
  out-second : (d : ℕ) (others : List ℕ) (x : Step DuesState) → (has_word_capitals t && is_upper t l.character) ≡ true → IsIn x (letter_step t s l number false (d ∷ others) after cells) → is_upper t d ≡ false
  out-second d others x w h =
      at (is_capital s.before) (is_upper t d)
      (subst (λ b. IsIn x (option_map_or (next_step t s l number false (d ∷ others) after cells) (cond b (cond (is_capital s.before) (any_if false) (further_by t false (d ∷ others))) (any_if true)) [])) w h)
    where
      at : (b k : Bool) → IsIn x (option_map_or (next_step t s l number false (d ∷ others) after cells) (cond b None (any_if (not k))) []) → k ≡ false
      at true k i = absurd i
      at false true i = absurd i
      at false false i = refl

  -- so it is none of those in a run
  out-apart : (d : ℕ) (others : List ℕ) (x : Step DuesState) → IsIn x (letter_step t s l number false (d ∷ others) after cells) → list_any (is_same_step x) (caps_run_steps t s l number after cells [] (d ∷ others)) ≡ false
  out-apart d others x h = at (has_word_capitals t && is_upper t l.character) refl
    where
      at : (b : Bool) → (has_word_capitals t && is_upper t l.character) ≡ b → list_any (is_same_step x) (caps_run_steps t s l number after cells [] (d ∷ others)) ≡ false
      at false w = ap (list_any (is_same_step x)) (flat_map-none (caps_run_step t s l number after cells) (none-in-run w) (choices t (d ∷ others)))
      at true w = apart x (caps_run_steps t s l number after cells [] (d ∷ others)) (λ i. (
          let chosen = from-flat_map (caps_run_step t s l number after cells) x (choices t (d ∷ others)) i in
          let both : l.character ∷ chosen.0 ≡ l.character ∷ d ∷ others = sym (step-reads true chosen.0 x chosen.2) ∙ step-reads false (d ∷ others) x h in
          let same : chosen.0 ≡ d ∷ others = cc in
          let upper : (is_upper t d && list_all (is_upper t) others) ≡ true = ap (list_all (is_upper t)) (sym same) ∙ (from-choices t (d ∷ others) chosen.0 chosen.1).0 in
          let never : false ≡ true = sym (out-second d others x w h) ∙ first_so (is_upper t d) (list_all (is_upper t) others) upper in
          cc))

  out-longer : (others : List ℕ) (x : Step DuesState) → IsIn x (letter_step t s l number false others after cells) → 1 < length x.reads → list_any (is_same_step x) (caps_run_steps t s l number after cells [] others) ≡ false
  out-longer [] x h more = (let one = ap length (step-reads false [] x h) in absurd (omega (arith, one, more)))
  out-longer (d ∷ others) x h more = out-apart d others x h

  -- the steps in a run, and then the one out of it, each once
  module _ (single : Pairwise (λ a b. a ≢ b) (letters t)) (others : List ℕ) (run : Bool) (out : run ≡ false) (o : Option (Step DuesState))
      (step : one_if o ≡ letter_step t s l number run others after cells) (old now : List (Step DuesState)) (had : now ≡ old ++ caps_run_steps t s l number after cells [] others) where
    abbrev in_caps_run : List (Step DuesState)
    in_caps_run = caps_run_steps t s l number after cells [] others

    each-once : with_steps [] (cased_steps t s l number others after cells) ≡ with_steps in_caps_run (one_if o)
    each-once =
        with_steps-append [] in_caps_run (letter_step t s l number false others after cells)
        ∙ ap (λ steps. with_steps steps (letter_step t s l number false others after cells)) (with_steps-apart [] in_caps_run (runs-differ single others))
        ∙ ap (λ b. with_steps in_caps_run (letter_step t s l number b others after cells)) (sym out) ∙ ap (with_steps in_caps_run) (sym step)

    pub no-other : o ≡ None → now ≡ old ++ with_steps [] (cased_steps t s l number others after cells)
    no-other e = had ∙ ap (λ l. old ++ l) (sym (each-once ∙ ap (λ p. with_steps in_caps_run (one_if p)) e))

    module _ (x : Step DuesState) (is : o ≡ Some x) (whole : List (Step DuesState)) (first : ℕ) (same : whole ≡ now) (at : first ≡ length old) where
      tail : take (length whole - first) (drop first whole) ≡ in_caps_run
      tail =
          let all : length (drop first whole) ≤ length whole - first = (let n = length-drop first whole in omega (arith, n)) in
          take_all (length whole - first) (drop first whole) all ∙ ap₂ (λ n l. drop n l) at (same ∙ had) ∙ drop-append_seam old in_caps_run

      pub longer-apart : 1 < length x.reads → list_any (is_same_step x) (take (length whole - first) (drop first whole)) ≡ false
      longer-apart more =
          let there : x ∷ [] ≡ letter_step t s l number false others after cells = ap one_if (sym is) ∙ step ∙ ap (λ b. letter_step t s l number b others after cells) out in
          ap (list_any (is_same_step x)) tail ∙ out-longer others x (subst (IsIn x) there (inl refl)) more

      module _ (among : Bool) (found : among ≡ list_any (is_same_step x) (take (length whole - first) (drop first whole))) where
        each : cond among now (now ++ x ∷ []) ≡ old ++ with_steps [] (cased_steps t s l number others after cells)
        each =
            by-flag among ∙ ap (λ l. old ++ l) (ap (λ b. cond b in_caps_run (in_caps_run ++ x ∷ [])) (found ∙ ap (list_any (is_same_step x)) tail) ∙ sym (each-once ∙ ap (λ p. with_steps in_caps_run (one_if p)) is))
          where
            by-flag : (b : Bool) → cond b now (now ++ x ∷ []) ≡ old ++ cond b in_caps_run (in_caps_run ++ x ∷ [])
            by-flag true = had
            by-flag false = ap (λ l. l ++ x ∷ []) had ∙ append_assoc old in_caps_run (x ∷ [])

        pub other-again : among ≡ true → now ≡ old ++ with_steps [] (cased_steps t s l number others after cells)
        other-again e = ap (λ b. cond b now (now ++ x ∷ [])) (sym e) ∙ each

        pub one-other : among ≡ false → (new : List (Step DuesState)) → new ≡ now ++ x ∷ [] → new ≡ old ++ with_steps [] (cased_steps t s l number others after cells)
        one-other e new gave = gave ∙ ap (λ b. cond b now (now ++ x ∷ [])) (sym e) ∙ each
