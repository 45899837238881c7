use Rattle.std.proofs.Common.{◌≡◌, ◌≤◌, length, take, vec_len, vec_capacity}
use Rattle.brl_rules.specs.Infos.{AreInfosOf}
use Rattle.brl_forward.proofs.infos.infos_of.Given as goal

abbrev pub invariant-loop-place : goal.invariant-loop-place
invariant-loop-place l = record {
  infos : AreInfosOf l.table (take l.place l.text) l.infos.items;
  count : vec_len l.infos ≡ l.place;
  room : length l.text ≤ vec_capacity l.infos;
}
