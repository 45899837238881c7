use Rattle.std.proofs.Common.{◌≡◌, ◌++◌, ◌∷◌, take, All}
use Rattle.std.specs.List.{flat_map}
use Rattle.brl_cert.specs.Dues.{spelled_due}
use Rattle.brl_cert.specs.Valid.{IsDue}
use Rattle.brl_cert.proofs.dues_line.push_each_due.Given as goal

abbrev pub invariant-loop-due : goal.invariant-loop-due
invariant-loop-due l = record {
  written : l.out.items ≡ l.fn.out.items ++ flat_map (λ due. 32 ∷ spelled_due due) (take l.due-index l.dues);
  in_range : All IsDue (take l.due-index l.dues);
}
