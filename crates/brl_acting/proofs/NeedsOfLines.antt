-- What characters of a table stand for, they stand for by the pairs that its lines give.
use Rattle.std.proofs.Common.{◌≡◌, ◌∙◌, ◌⊎◌, ◌||◌, ℕ, zero, suc, Bool, true, false, List, [], ◌∷◌, ap, cond, filter, inl, inr, length, map, nat_eq, refl, sym}
use Rattle.std.specs.Cmp.{first_so, second_so}
use Rattle.std.specs.List.{list_all, list_any}
use Rattle.brl_rules.specs.TableView.{TableView}
use Rattle.brl_rules.specs.Text.{fold_of}
use Rattle.brl_rules.proofs.Facts.{and-true, nat_eq-itself, not_both, or-true, same_number}
use Rattle.brl_acting.specs.Capitals.{bases_of, grown, near_by, over_by, reached_in, seconds, stood_by, turned}
use Rattle.brl_acting.specs.Idle.{HasFolds, IsIdle, is_stood_for, stands_for}
use Rattle.brl_acting.specs.Readings.{known_of}
use Rattle.brl_acting.specs.Sets.{is_in}
use Rattle.brl_acting.specs.Words.{LineParts}

-- what is in a set stays there as it grows
stays : (steps : ℕ) (pairs : List (ℕ × ℕ)) (set : ℕ → Bool) (c : ℕ) → set c ≡ true → reached_in steps pairs set c ≡ true
stays zero pairs set c has = has
stays (suc n) pairs set c has = stays n pairs (grown pairs set) c (ap (λ b. b || is_in (seconds pairs set) c) has)

either : (a b d : Bool) → (b ≡ true → d ≡ true) → (a || b) ≡ true → (a || d) ≡ true
either true b d more is = refl
either false b d more is = more is

-- the second characters of pairs that begin with one of a set are among those of the set
among_seconds : (set : ℕ → Bool) (c other : ℕ) → set c ≡ true → (pairs : List (ℕ × ℕ)) → is_in (seconds pairs (nat_eq c)) other ≡ true → is_in (seconds pairs set) other ≡ true
among_seconds set c other has [] is = cc
among_seconds set c other has (pair ∷ pairs) is = by (nat_eq c pair.0) (set pair.0) refl refl is (among_seconds set c other has pairs)
  where
    by : (b d : Bool) → nat_eq c pair.0 ≡ b → set pair.0 ≡ d
        → is_in (map (λ (p : ℕ × ℕ). p.1) (cond b (pair ∷ filter (λ p. nat_eq c p.0) pairs) (filter (λ p. nat_eq c p.0) pairs))) other ≡ true
        → (is_in (seconds pairs (nat_eq c)) other ≡ true → is_in (seconds pairs set) other ≡ true)
        → is_in (map (λ (p : ℕ × ℕ). p.1) (cond d (pair ∷ filter (λ p. set p.0) pairs) (filter (λ p. set p.0) pairs))) other ≡ true
    by true true e f is more = either (nat_eq other pair.1) (is_in (seconds pairs (nat_eq c)) other) (is_in (seconds pairs set) other) more is
    by true false e f is more = absurd (not_both (set pair.0) (ap set (sym (same_number c pair.0 e)) ∙ has) f)
    by false true e f is more = ap (λ b. nat_eq other pair.1 || b) (more is) ∙ or-true (nat_eq other pair.1)
    by false false e f is more = more is

module _ (pairs : List (ℕ × ℕ)) (chars : List ℕ) where
  -- characters stand for themselves, and for what they are paired with
  itself : (c : ℕ) → is_in chars c ≡ true → stood_by pairs chars c ≡ true
  itself c within = ap (λ b. over_by pairs chars c || b) within ∙ or-true (over_by pairs chars c)

  its_second : (a c : ℕ) → is_in chars a ≡ true → is_in (seconds pairs (nat_eq a)) c ≡ true → stood_by pairs chars c ≡ true
  its_second a c within is =
      ap (λ b. b || is_in chars c) (stays (length pairs) pairs (is_in (seconds pairs (is_in chars))) c (among_seconds (is_in chars) a c within pairs is))

  pub near : (c : ℕ) → near_by pairs chars c ≡ false → is_in chars c ≡ false
  near c far = by (is_in chars c) refl
    where
      by : (b : Bool) → is_in chars c ≡ b → b ≡ false
      by false e = refl
      by true e = absurd (not_both (near_by pairs chars c) (stays (length (turned pairs)) (turned pairs) (stood_by pairs chars) c (itself c e)) far)

  module _ (t : TableView) (folds : HasFolds pairs t) where
    its_fold : (a c : ℕ) → is_in chars a ≡ true → nat_eq (fold_of t a) c ≡ true → stood_by pairs chars c ≡ true
    its_fold a c within e = by (folds a)
      where
        by : (fold_of t a ≡ a) ⊎ (is_in (seconds pairs (nat_eq a)) (fold_of t a) ≡ true) → stood_by pairs chars c ≡ true
        by (inl own) = itself c (ap (is_in chars) (sym (same_number (fold_of t a) c e) ∙ own) ∙ within)
        by (inr paired) = its_second a c within (ap (is_in (seconds pairs (nat_eq a))) (sym (same_number (fold_of t a) c e)) ∙ paired)

    its_own : (a c : ℕ) → is_in chars a ≡ true → stands_for t a c ≡ true → stood_by pairs chars c ≡ true
    its_own a c within stands = by (nat_eq a c) refl stands
      where
        by : (b : Bool) → nat_eq a c ≡ b → (b || nat_eq (fold_of t a) c) ≡ true → stood_by pairs chars c ≡ true
        by true e stands = itself c (ap (is_in chars) (sym (same_number a c e)) ∙ within)
        by false e stands = its_fold a c within stands

    of_some : (all : List ℕ) (c : ℕ) → ((a : ℕ) → is_in all a ≡ true → is_in chars a ≡ true) → list_any (λ a. stands_for t a c) all ≡ true → stood_by pairs chars c ≡ true
    of_some [] c within stands = cc
    of_some (a ∷ all) c within stands =
        by (stands_for t a c) refl stands (of_some all c (λ x there. within x (ap (λ b. nat_eq x a || b) there ∙ or-true (nat_eq x a))))
      where
        by : (b : Bool) → stands_for t a c ≡ b → (b || list_any (λ a. stands_for t a c) all) ≡ true
            → (list_any (λ a. stands_for t a c) all ≡ true → stood_by pairs chars c ≡ true) → stood_by pairs chars c ≡ true
        by true e stands more = its_own a c (within a (ap (λ b. b || is_in all a) (nat_eq-itself a))) e
        by false e stands more = more stands

    all_stood_by : (all rule : List ℕ) → ((a : ℕ) → is_in all a ≡ true → is_in chars a ≡ true) → list_all (is_stood_for t all) rule ≡ true → list_all (stood_by pairs chars) rule ≡ true
    all_stood_by all [] within stands = refl
    all_stood_by all (c ∷ rule) within stands =
        and-true (stood_by pairs chars c) (list_all (stood_by pairs chars) rule)
        (of_some all c within (first_so (is_stood_for t all c) (list_all (is_stood_for t all) rule) stands))
        (all_stood_by all rule within (second_so (is_stood_for t all c) (list_all (is_stood_for t all) rule) stands))

    pub idle : (all rule : List ℕ) → ((a : ℕ) → is_in all a ≡ true → is_in chars a ≡ true) → list_all (stood_by pairs chars) rule ≡ false → IsIdle t all rule
    idle all rule within none = by (list_all (is_stood_for t all) rule) refl
      where
        by : (b : Bool) → list_all (is_stood_for t all) rule ≡ b → b ≡ false
        by false e = refl
        by true e = absurd (not_both (list_all (stood_by pairs chars) rule) (all_stood_by all rule within e) none)

-- a character of the alphabet is one of those with the blank
in_more : (blank : ℕ) (alphabet : List ℕ) (c : ℕ) → is_in alphabet c ≡ true → is_in (blank ∷ alphabet) c ≡ true
in_more blank alphabet c within = ap (λ b. nat_eq c blank || b) within ∙ or-true (nat_eq c blank)

pub idle_by_needs : (lines : List LineParts) (alphabet : List ℕ) (t : TableView) (chars : List ℕ) → HasFolds (bases_of lines) t
    → list_all (known_of lines alphabet).reach.stood chars ≡ false → IsIdle t alphabet chars
idle_by_needs lines alphabet t chars folds none = idle (bases_of lines) (32 ∷ alphabet) t folds alphabet chars (in_more 32 alphabet) none

pub outside_by_needs : (lines : List LineParts) (alphabet : List ℕ) (c : ℕ) → (known_of lines alphabet).reach.near c ≡ false → is_in alphabet c ≡ false
outside_by_needs lines alphabet c far = by (is_in alphabet c) refl
  where
    by : (b : Bool) → is_in alphabet c ≡ b → b ≡ false
    by false e = refl
    by true e = absurd (not_both (is_in (32 ∷ alphabet) c) (in_more 32 alphabet c e) (near (bases_of lines) (32 ∷ alphabet) c far))
