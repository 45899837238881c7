use Rattle.std.proofs.Common.{◌≡◌, ◌++◌, take, All}
use Rattle.std.specs.List.{flat_map}
use Rattle.brl_cert.specs.declared.line.Line.TheVariants.{State}
use Rattle.brl_cert.specs.Lines.{whole_line}
use Rattle.brl_cert.proofs.writing.push_states.Given as goal

abbrev pub invariant-loop-state : goal.invariant-loop-state
invariant-loop-state g l = record {
  written : l.out.items ≡ l.fn.out.items ++ flat_map (λ s. whole_line g.V.Version.form (State s)) (take l.state-index l.states);
  in_range : All g.V.Version.is_state (take l.state-index l.states);
}
