use Rattle.std.proofs.Common.{◌≡◌, take}
use Rattle.brl_table.proofs.ListSteps.{AppliesLists}
use Rattle.brl_table.proofs.builder.apply_lists.Given as goal

abbrev pub invariant-loop-item : goal.invariant-loop-item
invariant-loop-item l = record {
  roles : AppliesLists l.fn.characters.infos.entries l.characters.infos.entries (take l.item-index l.items);
  notices : l.characters.notices ≡ l.fn.characters.notices;
}
