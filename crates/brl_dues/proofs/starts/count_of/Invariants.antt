use Rattle.std.proofs.Common.{◌≡◌, true}
use Rattle.std.specs.List.{AllWithin}
use Rattle.brl_states.specs.declared.due.Due.{Due}
use Rattle.brl_dues.specs.Letters.{bars_from}
use Rattle.brl_dues.proofs.starts.count_of.Given as goal

abbrev pub invariant-loop-count : goal.invariant-loop-count
invariant-loop-count l = AllWithin (λ (due : Due). bars_from l.character due ≡ true) l.dues 0 l.count
