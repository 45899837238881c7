use Rattle.std.proofs.Common.{sym, subst}
use Rattle.brl_closure.specs.Passed.{AreListedIfShared}
use Rattle.brl_closure.proofs.PassedLaws.{shared_listed}
use Rattle.brl_closure.proofs.check.missing.missing_split.Goals as goal

pub missing_of_unshared-requires-clause-listed : goal.missing_of_unshared-requires-clause-listed
missing_of_unshared-requires-clause-listed c =
    let a = c.args in
    subst (AreListedIfShared a.pairs.now a.edges.now) (sym c.as_slice-2.ensures.value) (shared_listed a.pairs.now a.edges.now a.others.now c.in_ok-shared.shared.items c.in_ok-shared.ensures c.requires.passed)
