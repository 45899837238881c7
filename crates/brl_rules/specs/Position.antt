-- When a rule fits, by position in a whole text, and which rule is chosen, by place in rank.
use Rattle.std.specs.Prelude.{ℕ, ◌+◌, ◌<◌, ◌≤◌, ◌≡◌, Bool, true, false, IsTrue, List, length, drop, slice_get, slice_index, Some}
use Rattle.brl_rules.specs.declared.class.Class.{Class}
use Rattle.brl_rules.specs.declared.rule.Rule.{Rule}
use Rattle.brl_rules.specs.TableView.{TableView}
use Rattle.brl_rules.specs.Places.{holds, before_of, after_of}
use Rattle.brl_rules.specs.Text.{fold_of, classes_at, classes_before, classes_of, is_capital, is_in_caps_run}
use Rattle.brl_rules.specs.Choice.{fits}

-- whether position i is in a run of capitals
abbrev pub in_caps_run_at : TableView → List ℕ → ℕ → Bool
in_caps_run_at t text i = is_in_caps_run t (classes_before t text i) (drop i text)

-- Rule r fits at position i: it has characters, and the text has as many from there on; its first
-- character is the fold of the text's; its others are the text's own, or in a run of capitals the
-- folds of the text's, which are capitals; and the classes before and after it meet the conditions
-- of its place.
pub record FitsAt (t : TableView) (text : List ℕ) (i : ℕ) (r : Rule) : Type 0 where
  pub some : 1 ≤ length r.chars
  pub room : i + length r.chars ≤ length text
  pub first : fold_of t (slice_index text i) ≡ slice_index r.chars 0
  pub others : in_caps_run_at t text i ≡ false → (k : ℕ) → 1 ≤ k → k < length r.chars → slice_index text (i + k) ≡ slice_index r.chars k
  pub capitals : in_caps_run_at t text i ≡ true → (k : ℕ) → 1 ≤ k → k < length r.chars → IsTrue (is_capital (classes_of t (slice_index text (i + k))))
  pub folds : in_caps_run_at t text i ≡ true → (k : ℕ) → 1 ≤ k → k < length r.chars → fold_of t (slice_index text (i + k)) ≡ slice_index r.chars k
  pub before : IsTrue (holds (before_of r.place) (classes_before t text i))
  pub after : IsTrue (holds (after_of r.place (classes_before t text i)) (classes_at t text (i + length r.chars)))

-- the rule at this place in rank fits at the start of `rest`, and none at an earlier place does
pub record IsFirstThatFits (t : TableView) (before : Class) (rest : List ℕ) (place : ℕ) (r : Rule) : Type 0 where
  pub there : slice_get t.rules place ≡ Some r
  pub fitting : IsTrue (fits t before rest r)
  pub none_earlier : (earlier : ℕ) (q : Rule) → earlier < place → slice_get t.rules earlier ≡ Some q → fits t before rest q ≡ false
