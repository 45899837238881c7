use Rattle.std.proofs.Common.{◌≡◌, flat_map, map, take, option_to_list}
use Rattle.std.specs.List.{enumerate_from}
use Rattle.brl_lines.specs.Views.{line_view}
use Rattle.brl_slips.specs.Lines.{pieces_of, rule_at}
use Rattle.brl_slips.proofs.lexicon.read_lexicon.Given as goal

abbrev pub invariant-loop-place : goal.invariant-loop-place
invariant-loop-place l = record {
  pieces : l.pieces.items ≡ pieces_of l.alphabet (take l.place (map line_view l.lines));
  entries : l.entries.items ≡ flat_map (λ at. option_to_list (rule_at l.alphabet (map line_view l.lines) at)) (take l.place (enumerate_from 0 (map line_view l.lines)));
}
