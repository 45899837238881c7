use Rattle.std.proofs.Common.{◌≡◌, ℕ, List, Option, refl, subst}
use Rattle.brl_closure.specs.Alike.{AreFirstTwoAt}
use Rattle.brl_closure.specs.Least.{IsLeastPairFound}
use Rattle.brl_closure.specs.Excusing.{MissesUnexcused}
use Rattle.brl_closure.specs.Steps.{HasOfRules, MissUnexcused}
use Rattle.brl_closure.proofs.FirstTwo.{kept_in_order, split_of_kept}
use Rattle.brl_closure.proofs.LeastLaws.{none_found_pair}
use Rattle.brl_closure.proofs.MissingAt.{split_at}
use Rattle.brl_closure.proofs.PassedLaws.{miss_none}
use Rattle.brl_pairs.specs.Body.{BodyView, NumberPair}
use Rattle.brl_pairs.specs.Edges.{AreEdges, AreInOrder}
use Rattle.brl_pairs.specs.Members.{HaveOneNumber}
use Rattle.brl_pairs.specs.Runs.{Behaviour}
use Rattle.brl_pairs.specs.declared.edge.Edge.{Edge}
use Rattle.brl_pairs.specs.declared.excused.Excused.{Excused}
use Rattle.brl_closure.proofs.check.missing.StateEdges.missing_split_at.Goals as goal

-- the least rules of the kept edges are those of the state's steps
least_split : {S : Type 0} (m : Behaviour S) (excused : Excused) (body : BodyView S) → HaveOneNumber body.states → (state : ℕ) (kept : List Edge) (k : AreFirstTwoAt m excused body.states state kept)
    → ((edges : List Edge) → AreEdges m body.states state edges → AreInOrder edges) → (pairs : List NumberPair) → pairs ≡ body.pairs → (found : Option (ℕ × ℕ))
    → IsLeastPairFound (HasOfRules (MissUnexcused excused pairs) kept) found → IsLeastPairFound (MissesUnexcused m excused body state) found
least_split m excused body one state kept k order pairs same found least =
    let in_order = order k.edges k.are_edges in
    split_at m body one excused state k.edges k.are_edges in_order found (split_of_kept excused k.edges kept k.first_two in_order body.pairs found
    (subst (λ (ps : List NumberPair). IsLeastPairFound (HasOfRules (MissUnexcused excused ps) kept) found) same least))

pub missing_split-requires-clause-in_order : goal.missing_split-requires-clause-in_order
missing_split-requires-clause-in_order g c =
    let k = c.requires.edges in
    kept_in_order c.args.self.now.excused.now k.edges c.args.self.now.edges.now.edges k.first_two (c.edges_law.ensures c.args.self.now.body.now.states c.args.state k.edges k.are_edges)

pub returns-in_default-clause-found : goal.returns-in_default-clause-found
returns-in_default-clause-found g c =
    let a = c.args in
    let m = g.M.Machine.behaviour a.self.now.machine.now in
    let found = c.in_ok-found.found in
    let least = least_split m a.self.now.excused.now a.self.now.body.now c.law.ensures.states a.state a.self.now.edges.now.edges c.requires.edges (c.edges_law.ensures a.self.now.body.now.states a.state) c.pairs-pairs.result.now c.pairs-pairs.ensures found c.in_ok-found.ensures in
    none_found_pair (MissesUnexcused m a.self.now.excused.now a.self.now.body.now a.state) found c.in_default.not-Some least

pub returns-in_default-clause-listed : goal.returns-in_default-clause-listed
returns-in_default-clause-listed g c = λ none.
    let s = c.args.self.now in
    miss_none s.excused.now s.body.now.pairs s.edges.now.edges
    (none_found_pair (HasOfRules (MissUnexcused s.excused.now s.body.now.pairs) s.edges.now.edges) c.in_ok-found.found c.in_default.not-Some
    (subst (λ (ps : List NumberPair). IsLeastPairFound (HasOfRules (MissUnexcused s.excused.now ps) s.edges.now.edges) c.in_ok-found.found) c.pairs-pairs.ensures c.in_ok-found.ensures))

pub returns-clause-found : goal.returns-clause-found
returns-clause-found g c =
    let a = c.args in
    let m = g.M.Machine.behaviour a.self.now.machine.now in
    let found = c.in_ok-found.found in
    let least = least_split m a.self.now.excused.now a.self.now.body.now c.law.ensures.states a.state a.self.now.edges.now.edges c.requires.edges (c.edges_law.ensures a.self.now.body.now.states a.state) c.pairs-pairs.result.now c.pairs-pairs.ensures found c.in_ok-found.ensures in
    (refl, subst (λ (o : Option (ℕ × ℕ)). IsLeastPairFound (MissesUnexcused m a.self.now.excused.now a.self.now.body.now a.state) o) c.in-Some.is least)
