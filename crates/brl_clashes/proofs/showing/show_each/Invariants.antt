use Rattle.std.proofs.Common.{◌≡◌, ◌≤◌, ℕ, List, length, true}
use Rattle.brl_clashes.proofs.Showings.{HasShown}
use Rattle.brl_clashes.specs.Finding.{AreKnownAt, IfKnown}
use Rattle.brl_clashes.specs.Showing.{asked_of}
use Rattle.brl_clashes.specs.declared.section.Section.{Section}
use Rattle.brl_clashes.proofs.showing.show_each.Given as goal

-- the sections so far were shown, and are whole; the clashes of the last one are known; the list of
-- all texts is kept where it is known
abbrev pub invariant-loop-place : goal.invariant-loop-place
invariant-loop-place g l =
    (sections left : List Section) × (text : List ℕ) × (length sections ≡ l.place) × (l.place ≤ length l.plan.kinds.now)
    × HasShown (asked_of l.plan.asked) sections left text true l.tally (g.O.Output.contents l.initial.out) (g.O.Output.contents l.out)
    × (g.O.Output.failures l.out ≡ g.O.Output.failures l.initial.out) × IfKnown (asked_of l.plan.asked) l.all × AreKnownAt (asked_of l.plan.asked) l.place l.known.items
