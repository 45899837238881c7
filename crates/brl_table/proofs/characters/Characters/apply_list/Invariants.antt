use Rattle.std.proofs.Common.{◌≡◌, take}
use Rattle.brl_table.proofs.ListSteps.{AppliesRole}
use Rattle.brl_table.proofs.characters.Characters.apply_list.Given as goal

abbrev pub invariant-loop-character : goal.invariant-loop-character
invariant-loop-character l = record {
  roles : AppliesRole l.line.role l.fn.self.infos.entries l.self.infos.entries (take l.character-index l.line.chars);
  plain : l.self.plain ≡ l.fn.self.plain;
  notices : l.self.notices ≡ l.fn.self.notices;
}
