use Rattle.std.proofs.Common.{rules}
use Rattle.brl_report.proofs.Places.{file-of_info, found-info, own-place}
use Rattle.brl_report.proofs.row.place_of.Goals as goal

pub place_text-requires-2 : goal.place_text-requires-2
place_text-requires-2 c =
    file-of_info c.args.table.now c.law.ensures c.in-Some-first.character.now c.in-Some-info.info.now
    (found-info c.args.table.now c.in-Some-first.character.now c.info.result c.in-Some-info.info c.info.ensures.value c.in-Some-info.is)

pub returns : goal.returns
returns c = search (rules, found-info, own-place)
