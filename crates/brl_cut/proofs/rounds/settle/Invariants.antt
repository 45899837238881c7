use Rattle.std.proofs.Common.{ℕ, ◌≡◌, map, string_bytes}
use Rattle.brl_table.specs.Survey.{faulty_line_view}
use Rattle.brl_cut.specs.Files.{file_view}
use Rattle.brl_cut.specs.Rounds.{IsSurveyed}
use Rattle.brl_cut.specs.Settling.{after_rounds, found_in_rounds}
use Rattle.brl_cut.proofs.rounds.settle.Given as goal

-- before each turn of the loop, the files and the faults are those after some number of rounds, and
-- a survey of the files found this
abbrev pub invariant-loop : goal.invariant-loop
invariant-loop l =
    let start = map file_view l.fn.files.items in
    let folders = map string_bytes l.folders in
    (rounds : ℕ) × (map file_view l.files.items ≡ after_rounds rounds folders l.root start) × (map faulty_line_view l.found.items ≡ found_in_rounds rounds folders l.root start)
    × IsSurveyed folders l.root (map file_view l.files.items) l.surveyed
