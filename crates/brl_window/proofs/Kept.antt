-- The longest rule of a table, and what the laws of its definitions say.
use Rattle.std.proofs.Common.{ℕ, suc, ◌<◌, ◌≤◌, ◌≡◌, List, [], ◌∷◌, length, arith, Some, ap}
use Rattle.std.specs.Prelude.{AllPairs, slice_get, slice_index_or}
use Rattle.brl_rules.specs.declared.class.Class.{Class}
use Rattle.brl_rules.specs.declared.rule.Info.{Info}
use Rattle.brl_rules.specs.declared.rule.Rule.{Rule}
use Rattle.brl_rules.specs.Choice.{chosen}
use Rattle.brl_rules.specs.Limits.{IsRule}
use Rattle.brl_rules.specs.TableView.{TableView}
use Rattle.brl_window.specs.Windows.{longest}

-- ---- The longest rule

longest-most : (n : ℕ) (rules : List Rule) → 1 ≤ n → ((k : ℕ) (d : Rule) → k < length rules → length (slice_index_or rules k d).chars ≤ n) → longest rules ≤ n
longest-most n [] some h = some
longest-most n (r ∷ rules) some h =
    let first = h 0 r (omega arith) in
    let others = longest-most n rules some (λ k d within. h (suc k) d (omega (arith, within))) in
    omega (arith, first, others)

-- it is the first where longer ones come first
pub longest-first : (characters : List (ℕ × Info)) (files : ℕ) (rules : List Rule) (r : Rule) → AllPairs (λ r s. length s.chars ≤ length r.chars) rules
    → ((k : ℕ) (d : Rule) → k < length rules → IsRule characters files (slice_index_or rules k d)) → slice_get rules 0 ≡ Some r → length r.chars ≡ longest rules
longest-first characters files [] r lengths all e = cc
longest-first characters files (x ∷ rules) r lengths all e =
    let same : x ≡ r = cc in
    let size : length x.chars ≡ length r.chars = ap (λ (q : Rule). length q.chars) same in
    let some = (all 0 x (omega arith)).some_characters in
    let others : longest rules ≤ length x.chars = longest-most (length x.chars) rules some (λ k d within. lengths 0 (suc k) d (omega arith) (omega (arith, within))) in
    omega (arith, size, others)

-- ---- The laws of a table's definitions

-- the chosen rule takes at least one character, and no more than there are
pub record Takes (n : ℕ) (rest : List ℕ) : Type 0 where
  pub some : 1 ≤ n
  pub room : n ≤ length rest

pub record Choosing (t : TableView) : Type 0 where
  pub some : (before : Class) (rest : List ℕ) → 0 < length rest → 1 ≤ (chosen t before rest).taken
  pub room : (before : Class) (rest : List ℕ) → 0 < length rest → (chosen t before rest).taken ≤ length rest

pub chosen-Takes : (t : TableView) → Choosing t → (before : Class) (c : ℕ) (rest : List ℕ) → Takes (chosen t before (c ∷ rest)).taken (c ∷ rest)
chosen-Takes t law before c rest = record {
  some = law.some before (c ∷ rest) (omega arith);
  room = law.room before (c ∷ rest) (omega arith);
}
