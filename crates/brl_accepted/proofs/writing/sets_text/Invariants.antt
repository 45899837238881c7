use Rattle.std.proofs.Common.{◌≡◌, map, string_bytes, take}
use Rattle.brl_accepted.specs.Writing.{sets_text}
use Rattle.brl_accepted.proofs.writing.sets_text.Given as goal

-- the lines of the sets so far
abbrev pub invariant-loop-set : goal.invariant-loop-set
invariant-loop-set l = string_bytes l.text ≡ sets_text (take l.set-index (map (λ set. set.items) l.sets))
