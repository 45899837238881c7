use Rattle.std.proofs.Common.{take}
use Rattle.brl_rules.specs.Infos.{AreInfosOf}
use Rattle.brl_forward.proofs.infos.known_infos_of.Given as goal

-- the characters so far have these infos
abbrev pub invariant-loop-character : goal.invariant-loop-character
invariant-loop-character l = AreInfosOf l.table (take l.character-index l.text) l.infos.items
