use Rattle.brl_divergence.specs.Listed.{IsDivergence}
use Rattle.brl_divergence.proofs.Rules.{all_insert, listed_insert, new_listed}
use Rattle.brl_divergence.proofs.explorer.Explorer.list.Goals as goal

pub returns-clause-listed : goal.returns-clause-listed
returns-clause-listed g c = record {
  ascending = c.insert.ensures.ordered;
  divergences = rw c.in_ok-insert.ensures.entries
      (all_insert c.args.rules c.args.texts (IsDivergence (g.M.Machine.behaviour c.args.self.now.finder.now.machine.now)) c.args.list.now.entries c.requires.listed.divergences c.requires.divergence);
}

pub returns-clause-there : goal.returns-clause-there
returns-clause-there g c = rw c.in_ok-insert.ensures.entries (new_listed c.args.rules c.args.texts c.args.list.now.entries)

pub returns-clause-kept : goal.returns-clause-kept
returns-clause-kept g c other h = rw c.in_ok-insert.ensures.entries (listed_insert c.args.rules c.args.texts other c.args.list.now.entries h)
