use Rattle.std.proofs.Common.{map}
use Rattle.brl_lines.specs.Views.{line_view}
use Rattle.brl_table.specs.Building.{AreWithinLimits, Represents}
use Rattle.brl_table.proofs.SurveySteps.{IsSurveyed}
use Rattle.brl_table.proofs.faulty.find_faulty.Given as goal

abbrev pub invariant-loop-line : goal.invariant-loop-line
invariant-loop-line l =
    record {
      represents : Represents l.builder.items.items l.builder.characters l.builder.signs l.builder.used;
      within : AreWithinLimits l.builder.characters l.builder.signs l.builder.used;
      so_far : IsSurveyed (map line_view l.lines) l.line-index l.builder.items.items l.found.items;
    }
