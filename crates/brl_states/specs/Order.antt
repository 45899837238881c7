-- The order of dues: needs before bars; needs by their conditions; bars by their characters, as
-- lists of code points, then by their conditions. Conditions: Any, Meets, Avoids, then the number
-- of the set. The order is this project's own choice.
use Rattle.std.specs.Prelude.{ℕ, Bool, true, false, List, [], ◌∷◌, All, IsTrue}
use Rattle.std.specs.Ordering.{nat_cmp, then_cmp, on}
use Rattle.std.specs.Cmp.Lexicographic.{slice_cmp}
use Rattle.std.specs.List.Sorted.{IsStrictlySortedBy}
use Rattle.std.specs.declared.cmp.Ordering.{Ordering}
use Rattle.std.specs.declared.cmp.Ordering.TheVariants.{Less, Equal, Greater}
use Rattle.brl_rules.specs.declared.place.Cond.{Cond}
use Rattle.brl_rules.specs.declared.place.Cond.TheVariants.{Any, Meets, Avoids}
use Rattle.brl_states.specs.declared.due.Due.{Due}
use Rattle.brl_states.specs.declared.due.Due.TheVariants.{Need, Bar}

-- the place of a condition's kind in the order
abbrev pub cond_kind : Cond → ℕ
cond_kind Any = 0
cond_kind (Meets set) = 1
cond_kind (Avoids set) = 2

-- the set of a condition as a number
abbrev pub cond_set : Cond → ℕ
cond_set Any = 0
cond_set (Meets set) = set.0
cond_set (Avoids set) = set.0

-- the order of conditions
abbrev pub cond_cmp : Cond → Cond → Ordering
cond_cmp = then_cmp (on cond_kind nat_cmp) (on cond_set nat_cmp)

-- the place of a due's kind in the order
abbrev pub due_kind : Due → ℕ
due_kind (Need cond) = 0
due_kind (Bar chars cond) = 1

-- the characters of a bar
abbrev pub due_chars : Due → List ℕ
due_chars (Need cond) = []
due_chars (Bar chars cond) = chars

-- the condition of a due
abbrev pub due_cond : Due → Cond
due_cond (Need cond) = cond
due_cond (Bar chars cond) = cond

-- the order of dues
abbrev pub due_cmp : Due → Due → Ordering
due_cmp = then_cmp (on due_kind nat_cmp) (then_cmp (on due_chars (slice_cmp nat_cmp)) (on due_cond cond_cmp))

-- a due that requires something: no need of Any, and no bar without characters
abbrev pub is_proper : Due → Bool
is_proper (Need Any) = false
is_proper (Need (Meets set)) = true
is_proper (Need (Avoids set)) = true
is_proper (Bar [] cond) = false
is_proper (Bar (c ∷ chars) cond) = true

-- the dues of a state: each is proper, and they ascend, so none is listed twice
pub record AreDues (dues : List Due) : Type 0 where
  pub proper : All (λ due. IsTrue (is_proper due)) dues
  pub ascend : IsStrictlySortedBy due_cmp dues

-- a due before, in place of or after the first of some ordered dues, as they compare
abbrev pub place : Ordering → Due → Due → List Due → List Due → List Due
place Less due other dues more = due ∷ other ∷ dues
place Equal due other dues more = other ∷ dues
place Greater due other dues more = other ∷ more

-- ordered dues with one more
abbrev pub insert_due : Due → List Due → List Due
insert_due due [] = due ∷ []
insert_due due (other ∷ dues) = place (due_cmp due other) due other dues (insert_due due dues)

-- dues put in order, without repeats
abbrev pub in_order : List Due → List Due
in_order [] = []
in_order (due ∷ dues) = insert_due due (in_order dues)
