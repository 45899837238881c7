use Rattle.std.proofs.Common.{inl, inr}
use Rattle.brl_search.proofs.list_laws.accepted_list_law.Goals as goal

pub returns : goal.returns
returns c left_out t limit list body exchanged accepted whole have = record {
  start = whole.closed.start;
  steps = whole.closed.steps;
  splits = λ s p has h. elim (whole.closed.splits s p has h) [ inl rules ↦ inl (inl (have h.longer.rule h.shorter.rule rules)) | inr there ↦ inr there ];
  moves = whole.closed.moves;
  ends = whole.closed.ends;
}
