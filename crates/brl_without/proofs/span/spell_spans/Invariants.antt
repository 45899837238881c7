use Rattle.std.proofs.Common.{◌≡◌, ◌++◌, drop, string_bytes}
use Rattle.brl_without.specs.Spans.{spelled_after, spelled_spans}
use Rattle.brl_without.proofs.span.spell_spans.Given as goal

-- what is spelled so far, and the rest from the open span on
abbrev pub invariant-loop-next : goal.invariant-loop-next
invariant-loop-next l = spelled_spans l.spans ≡ string_bytes l.text ++ spelled_after l.«open» (drop l.next-index l.others)
