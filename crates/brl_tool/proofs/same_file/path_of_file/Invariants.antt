use Rattle.std.proofs.Common.{◌≢◌, ◌<◌, ℕ, Bor, List, slice_index_or}
use Rattle.brl_tool.proofs.same_file.path_of_file.Given as goal

-- none of the paths that were tried is the other one
abbrev pub invariant-loop-path : goal.invariant-loop-path
invariant-loop-path g l = (k : ℕ) → (d : Bor (List ℕ)) → k < l.path-index → (slice_index_or l.paths k d).now ≢ l.out
