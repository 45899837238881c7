use Rattle.std.proofs.Common.{◌≤◌, ◌<◌, ◌-◌, All, ℕ, length}
use Rattle.std.specs.List.{Contains}
use Rattle.brl_slips.specs.Pieces.{chars_at}
use Rattle.brl_slips.specs.Searching.{IsPieceAt}
use Rattle.brl_slips.proofs.starts.Index.starting_at.Given as goal

abbrev pub invariant-loop-shorter : goal.invariant-loop-shorter
invariant-loop-shorter l = record {
  sound : All (IsPieceAt l.pieces l.text l.place) l.found.items;
  whole : (number : ℕ) → IsPieceAt l.pieces l.text l.place number → l.most - l.shorter < length (chars_at l.pieces number) → Contains l.found.items number;
}
