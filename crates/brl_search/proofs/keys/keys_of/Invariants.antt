use Rattle.std.proofs.Common.{◌≡◌, ◌<◌, ℕ, get_or, length}
use Rattle.std.specs.List.{remove}
use Rattle.brl_rules.specs.Translation.{translation}
use Rattle.brl_search.specs.Smaller.{key_of}
use Rattle.brl_search.proofs.keys.keys_of.Given as goal

abbrev pub invariant-loop-place : goal.invariant-loop-place
invariant-loop-place l = record {
  count : length l.keys.items ≡ l.place;
  each : (i : ℕ) → i < l.place → get_or l.keys.items i 0 ≡ key_of (translation l.table (remove l.text i));
}
