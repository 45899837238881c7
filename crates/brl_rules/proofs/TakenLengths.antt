-- A chosen rule takes at least one character, and no more than there are.
use Rattle.std.proofs.Common.{ℕ, ◌+◌, ◌<◌, ◌≤◌, ◌≡◌, Bool, true, false, List, [], ◌∷◌, length, refl, arith, cond, nat_eq, ◌&&◌}
use Rattle.std.specs.List.{starts_with}
use Rattle.std.specs.Cmp.{first_so, second_so}
use Rattle.brl_rules.specs.declared.rule.Rule.{Rule}
use Rattle.brl_rules.specs.declared.class.Class.{Class}
use Rattle.brl_rules.specs.TableView.{TableView}
use Rattle.brl_rules.specs.Places.{holds, before_of, after_of}
use Rattle.brl_rules.specs.Text.{classes_at, is_in_caps_run}
use Rattle.brl_rules.specs.Choice.{Choice, compared, matches, fits, first_fitting, by_rule, chosen}
use Rattle.brl_rules.proofs.Compared.{compared-length}

pub starts_with-length : (rest xs : List ℕ) → starts_with nat_eq rest xs ≡ true → length xs ≤ length rest
starts_with-length rest [] h = omega arith
starts_with-length [] (x ∷ xs) h = cc
starts_with-length (c ∷ rest) (x ∷ xs) h =
    omega (arith, starts_with-length rest xs (second_so (nat_eq x c) (starts_with nat_eq rest xs) h))

-- n is a number of characters that may be taken
pub record Takes (n : ℕ) (rest : List ℕ) : Type 0 where
  pub some : 1 ≤ n
  pub room : n ≤ length rest

pub matches-Takes : (t : TableView) (run : Bool) (rest chars : List ℕ) → matches t run rest chars ≡ true → Takes (length chars) rest
matches-Takes t run rest [] h = cc
matches-Takes t run rest (x ∷ xs) h =
    let k : length (x ∷ xs) ≤ length (compared t run rest) = starts_with-length (compared t run rest) (x ∷ xs) h in
    record { some = omega arith; room = omega (arith, k, compared-length t run rest) }

pub fits-Takes : (t : TableView) (before : Class) (rest : List ℕ) (r : Rule) → fits t before rest r ≡ true → Takes (length r.chars) rest
fits-Takes t before rest r h =
    let run = is_in_caps_run t before rest in
    matches-Takes t run rest r.chars
    (first_so (matches t run rest r.chars) (holds (before_of r.place) before)
    (first_so (matches t run rest r.chars && holds (before_of r.place) before)
    (holds (after_of r.place before) (classes_at t rest (length r.chars))) h))

-- the same of the choice that a test picks
choice-Takes : (b : Bool) (x y : Choice) (rest : List ℕ) → (b ≡ true → Takes x.taken rest) → Takes y.taken rest → Takes (cond b x y).taken rest
choice-Takes true x y rest h k = h refl
choice-Takes false x y rest h k = k

pub first_fitting-Takes : (t : TableView) (before : Class) (c : ℕ) (rest : List ℕ) (n : ℕ) (rules : List Rule)
    → Takes (first_fitting t before (c ∷ rest) n rules).taken (c ∷ rest)
first_fitting-Takes t before c rest n [] = record { some = omega arith; room = omega arith }
first_fitting-Takes t before c rest n (r ∷ rs) =
    choice-Takes (fits t before (c ∷ rest) r) (by_rule n r)
    (first_fitting t before (c ∷ rest) (n + 1) rs) (c ∷ rest) (fits-Takes t before (c ∷ rest) r) (first_fitting-Takes t before c rest (n + 1) rs)

pub chosen-Takes : (t : TableView) (before : Class) (c : ℕ) (rest : List ℕ) → Takes (chosen t before (c ∷ rest)).taken (c ∷ rest)
chosen-Takes t before c rest = first_fitting-Takes t before c rest 0 t.rules

-- the same at any rest that isn't empty
pub chosen-takes : (t : TableView) (before : Class) (rest : List ℕ) → 0 < length rest → Takes (chosen t before rest).taken rest
chosen-takes t before [] h = absurd (omega (arith, h))
chosen-takes t before (c ∷ rest) h = chosen-Takes t before c rest
