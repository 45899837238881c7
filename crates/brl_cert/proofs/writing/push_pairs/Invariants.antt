use Rattle.std.proofs.Common.{◌≡◌, ◌++◌, ◌∷◌, [], take, All}
use Rattle.std.specs.List.{flat_map, join_with_byte}
use Rattle.brl_cells.specs.Dots.{AreCells}
use Rattle.brl_cert.specs.Lines.{pair_fields}
use Rattle.brl_cert.proofs.writing.push_pairs.Given as goal

abbrev pub invariant-loop-pair : goal.invariant-loop-pair
invariant-loop-pair l = record {
  written : l.out.items ≡ l.fn.out.items ++ flat_map (λ p. join_with_byte 32 (pair_fields p) ++ 10 ∷ []) (take l.pair-index l.pairs);
  in_range : All (λ p. AreCells p.lead) (take l.pair-index l.pairs);
}
