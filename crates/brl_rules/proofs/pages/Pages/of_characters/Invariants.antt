use Rattle.std.proofs.Common.{ℕ}
use Rattle.brl_rules.specs.Pages.{place_in}
use Rattle.brl_rules.proofs.PageSteps.{IsPlaced}
use Rattle.brl_rules.proofs.pages.Pages.of_characters.Given as goal

abbrev pub invariant-loop-place : goal.invariant-loop-place
invariant-loop-place l = (c : ℕ) → IsPlaced l.characters.entries l.place c (place_in l.pages c)
