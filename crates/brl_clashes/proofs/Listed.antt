-- One more section of a list, and what is left of it.
use Rattle.std.proofs.Common.{◌≡◌, ◌∙◌, ◌-◌, ◌++◌, ◌&&◌, ℕ, zero, suc, Bool, true, false, List, [], ◌∷◌, Some, ap, arith, length, length-append, option_map, refl, slice_get, subst, sym}
use Rattle.std.specs.List.{list_all}
use Rattle.std.proofs.lemmas.List.Folds.{list_all-append}
use Rattle.std.proofs.lemmas.List.Sums.{fold-append}
use Rattle.brl_clashes.specs.Accepted.{AreLeftOf, IsLeftOf}
use Rattle.brl_clashes.specs.ClashesText.{counts_of}
use Rattle.brl_clashes.specs.Sections.{are_whole, is_whole, listed_after, lists_none}
use Rattle.brl_clashes.specs.Showing.{IsTally, IsTallyWith}
use Rattle.brl_clashes.specs.declared.section.Section.{Section}
use Rattle.brl_clashes.specs.declared.tally.Tally.{Tally}

-- what holds of each element and its place, and of one more at the end
pub one_more_place : {X : Type 0} (P : ℕ → X → Type 0) (xs : List X) (x : X) → ((place : ℕ) (y : X) → slice_get xs place ≡ Some y → P place y) → P (length xs) x
    → (place : ℕ) (y : X) → slice_get (xs ++ x ∷ []) place ≡ Some y → P place y
one_more_place P [] x each last zero y there = let same : x ≡ y = cc in subst (P 0) same last
one_more_place P [] x each last (suc place) y there = absurd cc
one_more_place P (z ∷ xs) x each last zero y there = each 0 y there
one_more_place P (z ∷ xs) x each last (suc place) y there = one_more_place (λ n. P (suc n)) xs x (λ n w at. each (suc n) w at) last place y there

-- the one more is the last
last_one : {X : Type 0} (xs : List X) (x : X) → slice_get (xs ++ x ∷ []) (length xs) ≡ Some x
last_one [] x = refl
last_one (y ∷ xs) x = last_one xs x

last_more : {X : Type 0} (xs : List X) (x : X) → slice_get (xs ++ x ∷ []) (length (xs ++ x ∷ []) - 1) ≡ Some x
last_more {X} xs x =
    let place : length xs ≡ length (xs ++ x ∷ []) - 1 = (let size = length-append xs (x ∷ []) in omega (arith, size)) in
    subst (λ (n : ℕ). slice_get (xs ++ x ∷ []) n ≡ Some x) place (last_one xs x)

-- a test of one more
and_one : (a b : Bool) → (a && b) ≡ (a && (b && true))
and_one true true = refl
and_one true false = refl
and_one false b = refl

all_more : {X : Type 0} (p : X → Bool) (xs : List X) (x : X) (a : Bool) → a ≡ (list_all p xs && p x) → a ≡ list_all p (xs ++ x ∷ [])
all_more p xs x a is = is ∙ and_one (list_all p xs) (p x) ∙ sym (list_all-append p xs (x ∷ []))

-- whole sections, and one more that may be whole
pub whole_more : (sections : List Section) (s : Section) (whole : Bool) → are_whole sections ≡ true → is_whole s.found ≡ whole → are_whole (sections ++ s ∷ []) ≡ whole
whole_more sections s whole all is =
    sym (all_more (λ (x : Section). is_whole x.found) sections s (is_whole s.found) (ap (λ (b : Bool). b && is_whole s.found) (sym all))) ∙ is

-- what is left of one section more
pub one_more_left : (passes : ℕ × ℕ → Bool) (sections left : List Section) (s x : Section) → AreLeftOf passes sections left → IsLeftOf passes s x → AreLeftOf passes (sections ++ s ∷ []) (left ++ x ∷ [])
one_more_left passes [] [] s x are is = (is, tt)
one_more_left passes [] (y ∷ left) s x are is = absurd are
one_more_left passes (z ∷ sections) [] s x are is = absurd are
one_more_left passes (z ∷ sections) (y ∷ left) s x are is = (are.0, one_more_left passes sections left s x are.1 is)

-- what is kept of one section more
pub tally_more : (sections left : List Section) (s x : Section) (before after : Tally) → IsTally sections left before → IsTallyWith s x before after → IsTally (sections ++ s ∷ []) (left ++ x ∷ []) after
tally_more sections left s x before after is more = record {
  whole = all_more (λ (y : Section). is_whole y.found) left x after.whole (more.whole ∙ ap (λ (b : Bool). b && is_whole x.found) is.whole);
  none = all_more (λ (y : Section). lists_none y.found) left x after.none (more.none ∙ ap (λ (b : Bool). b && lists_none x.found) is.none);
  counts = more.counts ∙ ap (option_map (λ (y : Section). counts_of y.found)) (sym (last_more left x));
  found_pairs = more.found_pairs ∙ ap (λ (pairs : List (ℕ × ℕ)). listed_after pairs s) is.found_pairs ∙ sym (fold-append listed_after [] sections (s ∷ []));
  left_pairs = more.left_pairs ∙ ap (λ (pairs : List (ℕ × ℕ)). listed_after pairs x) is.left_pairs ∙ sym (fold-append listed_after [] left (x ∷ []));
}
