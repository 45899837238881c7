use Rattle.std.proofs.Common.{◌≡◌, Ok, length, map, take, All}
use Rattle.brl_lines.specs.Views.{line_view}
use Rattle.brl_table.specs.ItemLimits.{IsItemWithinLimits}
use Rattle.brl_table.specs.Faults.{first_pass_fault, PassesBefore}
use Rattle.brl_table.specs.Reading.{files_of, item_in}
use Rattle.brl_table.specs.Building.{AreWithinLimits, Represents}
use Rattle.brl_table.proofs.builder.TableBuilder.add_all.Given as goal

abbrev pub invariant-loop-line : goal.invariant-loop-line
invariant-loop-line l =
    let lines = map line_view l.lines in
    let files = files_of lines in
    let items = l.self.items.items in
    record {
      aligned : map Ok items ≡ map (item_in files) (take l.line-index lines);
      represents : Represents items l.self.characters l.self.signs l.self.used;
      limits : All (IsItemWithinLimits (length files)) items;
      within : AreWithinLimits l.self.characters l.self.signs l.self.used;
      passed : PassesBefore (first_pass_fault lines) lines l.line-index;
    }
