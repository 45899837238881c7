use Rattle.std.proofs.Common.{◌≡◌, ◌∙◌, List, Some, IfSome, slice_get, subst}
use Rattle.brl_pairs.proofs.Positions.{position_at, found}
use Rattle.brl_pairs.proofs.members.Members.index_of.Goals as goal

pub returns-clause-found : goal.returns-clause-found
returns-clause-found g c =
    subst (λ (xs : List g.row.T.Denot). IfSome c.get_index_of.result (λ k. slice_get xs k ≡ Some c.args.value.now)) c.self.view_is
    (found g.met.T.Eq.laws g.met.T.Key.same c.self.inside.items.keys c.args.value.now c.get_index_of.result c.get_index_of.ensures.index)

pub returns-clause-only : goal.returns-clause-only
returns-clause-only g c k at =
    c.get_index_of.ensures.index ∙ position_at g.met.T.Eq.laws g.met.T.Key.same c.self.inside.items.keys c.args.value.now c.self.invariant k (rw c.self.view_is at)
