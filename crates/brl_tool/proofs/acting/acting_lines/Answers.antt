use Rattle.std.proofs.Common.{◌∙◌, map}
use Rattle.brl_acting.specs.WholeTable.{acting_of_table}
use Rattle.brl_lines.specs.GatherFaults.{gathered_view}
use Rattle.brl_table.specs.Survey.{faulty_line_view}
use Rattle.brl_tool.proofs.acting.acting_lines.Goals as goal

pub returns-clause-acting : goal.returns-clause-acting
returns-clause-acting c =
    let of = c.args.of.now in
    let characters = c.as_slice-characters.ensures.value ∙ c.in_ok-characters.ensures.characters in (
      c.in_ok-characters.ensures.all,
      c.in_ok-acting.ensures
          ∙ (λ j. acting_of_table of.whole.lines (gathered_view of.gathered) (map faulty_line_view (c.as_slice-left_out.ensures.value j)) (characters j)),
    )
