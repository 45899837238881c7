use Rattle.std.proofs.Common.{◌≡◌, map, take}
use Rattle.brl_lines.specs.Views.{line_view}
use Rattle.brl_table.specs.Reading.{rule_of, used_rules}
use Rattle.brl_table.specs.Building.{over, Resolves}
use Rattle.brl_table.proofs.builder.TableBuilder.resolve_all.Given as goal

abbrev pub invariant-loop-place : goal.invariant-loop-place
invariant-loop-place l =
    let characters = l.self.characters.infos.entries in
    record {
      rules : l.rules.items ≡ map (rule_of (over characters)) (used_rules (take l.place l.self.items.items));
      passed : Resolves characters (map line_view l.lines) l.self.items.items l.place;
    }
