-- Which rule is chosen depends on the next characters alone, as many as the longest rule has and
-- one more; whether they begin in a run of capitals depends on two.
use Rattle.std.proofs.Common.{ℕ, zero, suc, ◌+◌, ◌<◌, ◌≤◌, ◌≡◌, Bool, true, false, ◌&&◌, List, [], ◌∷◌, ◌++◌, length, map, refl, arith, cond, nat_eq, sym, ◌∙◌, ap}
use Rattle.std.specs.List.{starts_with, slice_get, AllByRecursion}
use Rattle.std.specs.Option.{option_map_or}
use Rattle.brl_rules.specs.declared.class.Class.{Class}
use Rattle.brl_rules.specs.declared.rule.Rule.{Rule}
use Rattle.brl_rules.specs.TableView.{TableView}
use Rattle.brl_rules.specs.Places.{space, holds, before_of, after_of}
use Rattle.brl_rules.specs.Choice.{by_rule, folds_of_capitals, matches, fits, first_fitting, chosen}
use Rattle.brl_rules.specs.Text.{fold_of, classes_of, classes_at, is_capital, is_in_caps_run}

-- what is asked of the known characters: more than the rule has, or all that there are
starts_with-more : (xs ys chars : List ℕ) → length chars ≤ length xs → starts_with nat_eq (xs ++ ys) chars ≡ starts_with nat_eq xs chars
starts_with-more xs ys [] h = refl
starts_with-more [] ys (c ∷ cs) h = absurd (omega (arith, h))
starts_with-more (x ∷ xs) ys (c ∷ cs) h = ap (λ b. nat_eq c x && b) (starts_with-more xs ys cs (omega (arith, h)))

slice_get-more : (xs ys : List ℕ) (k : ℕ) → k < length xs → slice_get (xs ++ ys) k ≡ slice_get xs k
slice_get-more [] ys k h = absurd (omega (arith, h))
slice_get-more (x ∷ xs) ys zero h = refl
slice_get-more (x ∷ xs) ys (suc k) h = slice_get-more xs ys k (omega (arith, h))

-- the folds of the capitals with which characters begin
folds-more : (t : TableView) (xs ys chars : List ℕ) → length chars ≤ length xs
    → starts_with nat_eq (folds_of_capitals t (xs ++ ys)) chars ≡ starts_with nat_eq (folds_of_capitals t xs) chars
folds-more t xs ys [] h = refl
folds-more t [] ys (c ∷ cs) h = absurd (omega (arith, h))
folds-more t (x ∷ xs) ys (c ∷ cs) h =
    cases (is_capital (classes_of t x)) (folds-more t xs ys cs (omega (arith, h)))
  where
    cases : (b : Bool) → starts_with nat_eq (folds_of_capitals t (xs ++ ys)) cs ≡ starts_with nat_eq (folds_of_capitals t xs) cs
        → starts_with nat_eq (cond b (fold_of t x ∷ folds_of_capitals t (xs ++ ys)) []) (c ∷ cs) ≡ starts_with nat_eq (cond b (fold_of t x ∷ folds_of_capitals t xs) []) (c ∷ cs)
    cases true more = ap (λ b. nat_eq c (fold_of t x) && b) more
    cases false more = refl

matches-more : (t : TableView) (run : Bool) (x : ℕ) (xs ys chars : List ℕ) → length chars < length (x ∷ xs)
    → matches t run (x ∷ (xs ++ ys)) chars ≡ matches t run (x ∷ xs) chars
matches-more t run x xs ys [] h = refl
matches-more t false x xs ys (c ∷ cs) h = ap (λ b. nat_eq c (fold_of t x) && b) (starts_with-more xs ys cs (omega (arith, h)))
matches-more t true x xs ys (c ∷ cs) h = ap (λ b. nat_eq c (fold_of t x) && b) (folds-more t xs ys cs (omega (arith, h)))

-- whether these begin in a run of capitals, by two of them
pub run-more : (t : TableView) (before : Class) (x : ℕ) (xs ys : List ℕ) → 2 ≤ length (x ∷ xs) → is_in_caps_run t before (x ∷ (xs ++ ys)) ≡ is_in_caps_run t before (x ∷ xs)
run-more t before x [] ys h = absurd (omega (arith, h))
run-more t before x (y ∷ xs) ys h = refl

fits-more : (t : TableView) (before : Class) (x : ℕ) (xs ys : List ℕ) (r : Rule) → 2 ≤ length (x ∷ xs) → length r.chars < length (x ∷ xs)
    → fits t before (x ∷ (xs ++ ys)) r ≡ fits t before (x ∷ xs) r
fits-more t before x xs ys r two h =
    let run = is_in_caps_run t before (x ∷ xs) in
    let m : matches t (is_in_caps_run t before (x ∷ (xs ++ ys))) (x ∷ (xs ++ ys)) r.chars ≡ matches t run (x ∷ xs) r.chars =
    ap (λ run. matches t run (x ∷ (xs ++ ys)) r.chars) (run-more t before x xs ys two) ∙ matches-more t run x xs ys r.chars h in
    let g : classes_at t (x ∷ (xs ++ ys)) (length r.chars) ≡ classes_at t (x ∷ xs) (length r.chars) =
    ap (λ o. option_map_or (classes_of t) o space) (slice_get-more (x ∷ xs) ys (length r.chars) h) in
    ap (λ b. b && holds (before_of r.place) before && holds (after_of r.place before) (classes_at t (x ∷ (xs ++ ys)) (length r.chars))) m
    ∙ ap (λ k. matches t run (x ∷ xs) r.chars && holds (before_of r.place) before && holds (after_of r.place before) k) g

first_fitting-more : (t : TableView) (before : Class) (x : ℕ) (xs ys : List ℕ) (n : ℕ) (rules : List Rule) → 2 ≤ length (x ∷ xs) → AllByRecursion (λ r. length r.chars < length (x ∷ xs)) rules
    → first_fitting t before (x ∷ (xs ++ ys)) n rules ≡ first_fitting t before (x ∷ xs) n rules
first_fitting-more t before x xs ys n [] two h = refl
first_fitting-more t before x xs ys n (r ∷ rs) two h =
    ap (λ b. cond b (by_rule n r) (first_fitting t before (x ∷ (xs ++ ys)) (n + 1) rs)) (fits-more t before x xs ys r two h.0)
    ∙ ap (cond (fits t before (x ∷ xs) r) (by_rule n r)) (first_fitting-more t before x xs ys (n + 1) rs two h.1)

pub chosen-more : (t : TableView) (before : Class) (x : ℕ) (xs ys : List ℕ) → 2 ≤ length (x ∷ xs) → AllByRecursion (λ r. length r.chars < length (x ∷ xs)) t.rules
    → chosen t before (x ∷ (xs ++ ys)) ≡ chosen t before (x ∷ xs)
chosen-more t before x xs ys two h = first_fitting-more t before x xs ys 0 t.rules two h
