use Rattle.std.proofs.Common.{◌≡◌, ◌∙◌, ap, subst, length, map, string_bytes, vec_len, arith, All, Global}
use Rattle.std.proofs.lemmas.List.{length-map}
use Rattle.brl_lines.specs.Views.{line_view}
use Rattle.brl_table.specs.ItemLimits.{IsItemWithinLimits}
use Rattle.brl_rules.specs.Limits.{IsRule}
use Rattle.brl_table.specs.Reading.{files_of}
use Rattle.brl_table.proofs.SecondPass.{table-is}
use Rattle.brl_table.proofs.builder.read_table.Goals as goal

pub finish-requires-clause-limits : goal.finish-requires-clause-limits
finish-requires-clause-limits c =
    let names = c.in_ok-files.files in
    let count : length (files_of (map line_view c.args.lines.now)) ≡ vec_len names = omega (arith, ap length c.in_ok-files.ensures, length-map names.items (string_bytes {Z = Global})) in
    subst (λ n. All (IsItemWithinLimits n) c.read.new.self.items.items) count c.in_ok-rules.ensures.read.limits

pub finish-requires-clause-rules : goal.finish-requires-clause-rules
finish-requires-clause-rules c =
    let names = c.in_ok-files.files in
    let count : length (files_of (map line_view c.args.lines.now)) ≡ vec_len names = omega (arith, ap length c.in_ok-files.ensures, length-map names.items (string_bytes {Z = Global})) in
    subst (λ n. All (IsRule c.read.new.self.characters.infos.entries n) c.in_ok-rules.rules.items) count c.in_ok-rules.ensures.read.rules_valid

pub returns-clause-good : goal.returns-clause-good
returns-clause-good c = (c.good_lines_law.ensures (map line_view c.args.lines.now)).0 c.in_ok-rules.ensures.read.passed

pub returns-clause-table : goal.returns-clause-table
returns-clause-table c =
    let read = c.in_ok-rules.ensures.read in
    let items = c.read.new.self in
    let t = c.in_ok-finish.ensures in
    table-is (map line_view c.args.lines.now) items.items.items read.aligned items.characters.infos.entries read.marked.entries_are items.characters.notices.items read.marked.notices_are
    c.in_ok-rules.rules.items read.rules_are c.in_ok-finish.field-0 t.characters t.rules
    (t.signs ∙ read.indicated) (t.files ∙ c.in_ok-files.ensures) t.notices
