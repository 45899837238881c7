use Rattle.std.proofs.Common.{rules}
use Rattle.brl_slips.proofs.Pairing.{families-push, families-same}
use Rattle.brl_slips.proofs.twins.add_rule.Goals as goal

pub returns-in_ok-insert : goal.returns-in_ok-insert
returns-in_ok-insert c =
    families-push c.args.lexicon.now c.args.entry c.args.families.now c.insert.new.families c.in_ok-family.family c.in-Some.piece.now c.requires (search rules) c.in_ok-family.ensures.cells c.in_ok-family.ensures.characters (search rules) c.in_ok-insert.ensures

pub returns-else-is_wanted : goal.returns-else-is_wanted
returns-else-is_wanted c =
    families-same c.args.lexicon.now c.args.entry c.args.families.now c.in_ok-family.family c.in-Some.piece.now c.requires (search rules) c.in_ok-family.ensures.cells c.in_ok-family.ensures.characters (search rules)
