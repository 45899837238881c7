use Rattle.std.proofs.Common.{List, ◌++◌, take}
use Rattle.brl_stream.specs.Lacking.{Use, uses_in}
use Rattle.brl_stream.specs.Noting.{IsNoted}
use Rattle.brl_stream.proofs.lacking.note.Given as goal

abbrev pub invariant-loop-character : goal.invariant-loop-character
invariant-loop-character l =
    (uses : List Use) → IsNoted uses l.initial.noted → IsNoted (uses ++ uses_in l.table l.number (take l.character-index l.text)) l.noted
