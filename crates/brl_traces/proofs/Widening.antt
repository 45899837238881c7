-- Traces that diverge at some pairs of rules do at more.
use Rattle.std.proofs.Common.{◌≡◌, ◌⊎◌, ℕ, true, List, inl, inr}
use Rattle.brl_pairs.specs.Divergence.{has_rules}
use Rattle.brl_rules.specs.TableView.{TableView}
use Rattle.brl_traces.specs.Traces.{ClashesDivergeAtWithout, TracesDivergeAt}

module _ (t : TableView) (rules more : List (ℕ × ℕ)) (widens : (r s : ℕ) → has_rules rules r s ≡ true → has_rules more r s ≡ true) where
  pub traces_widen : (left right : List ℕ) → TracesDivergeAt t rules left right → TracesDivergeAt t more left right
  traces_widen left right at = record {
    place = at.place;
    one = at.one;
    other = at.other;
    before = at.before;
    one_there = at.one_there;
    other_there = at.other_there;
    differ = at.differ;
    pair = widens at.one.rule at.other.rule at.pair;
  }

  -- so do those of any two texts that clash
  pub clashes_widen : (left_out : List ℕ) → ClashesDivergeAtWithout left_out rules t → ClashesDivergeAtWithout left_out more t
  clashes_widen left_out diverge one other one_is other_is one_none other_none equal = elim (diverge one other one_is other_is one_none other_none equal) [
    | inl same ↦ inl same
    | inr at ↦ inr (traces_widen one other at)
  ]
