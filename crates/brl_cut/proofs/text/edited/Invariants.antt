use Rattle.std.proofs.Common.{◌≡◌, ◌-◌, ◌+◌, ◌≤◌, ◌++◌, ℕ, List, Option, length, drop}
use Rattle.std.specs.List.{enumerate_from}
use Rattle.std.specs.Prelude.{flat_map}
use Rattle.brl_cut.specs.Edits.{edited, edited_line, whole_lines}
use Rattle.brl_cut.specs.Files.{HasPrefixes}
use Rattle.brl_cut.proofs.text.edited.Given as goal

abbrev pub invariant-loop-at : goal.invariant-loop-at
invariant-loop-at l = record {
  within : l.at ≤ length l.text;
  few : l.number ≤ l.at + 1;
  same : (prefix : ℕ → Option (List ℕ)) → HasPrefixes l.prefixes prefix
      → l.new.items ++ flat_map (λ entry. edited_line (prefix entry.0) entry.1) (enumerate_from l.number (whole_lines (drop l.at l.text))) ≡ edited prefix l.bytes;
}

abbrev pub decreases-loop-at : goal.decreases-loop-at
decreases-loop-at l = length l.text - l.at
