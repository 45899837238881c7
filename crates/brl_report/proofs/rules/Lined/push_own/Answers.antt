use Rattle.brl_report.proofs.Places.{file-of_info, found-info}
use Rattle.brl_report.proofs.rules.Lined.push_own.Goals as goal

pub push_listed-requires : goal.push_listed-requires
push_listed-requires c =
    file-of_info c.args.self.now.table.now c.law.ensures c.char_at-character.result c.in-Some.info.now
    (found-info c.args.self.now.table.now c.char_at-character.result c.info.result c.in-Some.info c.info.ensures.value c.in-Some.is)
