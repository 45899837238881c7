-- Lines of sets of characters, and the pairs of their own definitions.
use Rattle.std.proofs.Common.{◌≡◌, ◌++◌, ℕ, All, Bool, true, false, cond, List, [], ◌∷◌, ap, arith, encode_utf8_all, get_or, length, map, nat_eq, nat_lt, refl, subst}
use Rattle.std.specs.List.{AllByRecursion, list_any}
use Rattle.std.specs.Str.{all_scalars}
use Rattle.std.proofs.lemmas.Bool.{and_from, false≢true, le-ltb, lt-ltb}
use Rattle.std.proofs.lemmas.Bool.Decides.{Decides-eqb}
use Rattle.std.proofs.lemmas.List.Elements.{recursion_from_All}
use Rattle.std.proofs.lemmas.List.Folds.{list_any_at}
use Rattle.brl_accepted.specs.Sets.{is_within, named_set, or_none, set_line, set_pairs}
use Rattle.brl_lines.proofs.VisibleLemmas.{visibly_back}
use Rattle.brl_lines.specs.Visible.{visible_text}
use Rattle.brl_report.specs.Rules.{own_number}
use Rattle.brl_rules.specs.TableView.{TableView}

-- the line of a set names it
pub set_back : (set : List ℕ) → all_scalars set ≡ true → named_set (set_line set) ≡ set
set_back set scalars = ap or_none (visibly_back set (encode_utf8_all (visible_text set)) scalars refl)

-- a set is within itself
all_found : (set cs : List ℕ) → AllByRecursion (λ c. list_any (nat_eq c) set ≡ true) cs → is_within set cs ≡ true
all_found set [] found = refl
all_found set (c ∷ cs) found = and_from (list_any (nat_eq c) set) (is_within set cs) found.0 (all_found set cs found.1)

pub within_itself : (set : List ℕ) → is_within set set ≡ true
within_itself set = all_found set set (recursion_from_All (λ c. list_any (nat_eq c) set ≡ true) set each)
  where
    each : All (λ c. list_any (nat_eq c) set ≡ true) set
    each k d within = list_any_at (nat_eq (get_or set k d)) set k d within ((Decides-eqb (get_or set k d) (get_or set k d)).1 refl)

-- a set with a pair of own definitions has two characters or more
pub of_two : (t : TableView) (set : List ℕ) (p : ℕ × ℕ → Bool) → list_any p (set_pairs t set) ≡ true → nat_lt 1 (length set) ≡ true
of_two t [] p there = absurd (false≢true there)
of_two t (c ∷ []) p there =
    let n = own_number t c in
    let none : nat_lt n n ≡ false = le-ltb n n (omega arith) in
    absurd (false≢true (subst (λ (b : Bool). list_any p (map (λ s. (n, s)) (cond b (n ∷ []) []) ++ []) ≡ true) none there))
of_two t (c ∷ d ∷ set) p there = lt-ltb 1 (length (c ∷ d ∷ set)) (omega arith)
