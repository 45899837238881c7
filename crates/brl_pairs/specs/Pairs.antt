-- Pairs of runs, the lead of one run over the other, and closed sets of states and pairs. A lead is
-- what Sardinas and Patterson's test of codes calls a dangling suffix; applying the test to the
-- runs of a machine is this project's own choice.
use Rattle.std.specs.Prelude.{◌≡◌, ◌≢◌, ℕ, IsTrue, List, [], ◌++◌, ◌⊎◌, ◌↔◌, Option, Some, None}
use Rattle.brl_pairs.specs.declared.lead.Advanced.{Advanced}
use Rattle.brl_pairs.specs.declared.lead.Advanced.TheVariants.{Still, Swapped, Apart}
use Rattle.brl_pairs.specs.declared.step.Pair.{Pair}
use Rattle.brl_pairs.specs.declared.step.Step.{Step}
use Rattle.brl_pairs.specs.Runs.{Behaviour, IsListed, IsListedAt}

-- the lead after the run behind has given these cells
abbrev pub IsAdvanced : List ℕ → List ℕ → Advanced → Type 0
-- the cells begin the lead
IsAdvanced lead cells (Still rest) = lead ≡ cells ++ rest.now
-- the lead is a shorter beginning of the cells
IsAdvanced lead cells (Swapped rest) = (rest.now ≢ []) × (cells ≡ lead ++ rest.now)
-- neither begins the other
IsAdvanced lead cells Apart = ((rest : List ℕ) → lead ≢ cells ++ rest) × ((rest : List ℕ) → cells ≢ lead ++ rest)

-- Two listed steps at different places split into a pair where the cells of one begin those of the
-- other. The step with the longer cells goes ahead, by the rest of them.
pub record Splits {S : Type 0} (listed : List (Step S)) (p : Pair S) : Type 0 where
  pub i : ℕ
  pub j : ℕ
  pub longer : Step S
  pub shorter : Step S
  pub differ : i ≢ j
  pub longer_listed : IsListedAt listed i longer
  pub shorter_listed : IsListedAt listed j shorter
  pub ahead : p.ahead ≡ longer.next
  pub behind : p.behind ≡ shorter.next
  pub lead : longer.cells ≡ shorter.cells ++ p.lead

-- the run behind takes a step whose cells begin the lead: it stays behind, by the rest of the lead
pub record StaysBehind {S : Type 0} (p : Pair S) (x : Step S) (q : Pair S) : Type 0 where
  pub ahead : q.ahead ≡ p.ahead
  pub behind : q.behind ≡ x.next
  pub lead : p.lead ≡ x.cells ++ q.lead

-- the run behind takes a step, and the lead is a shorter beginning of its cells: it gets ahead, by
-- the rest of the cells
pub record GetsAhead {S : Type 0} (p : Pair S) (x : Step S) (q : Pair S) : Type 0 where
  pub ahead : q.ahead ≡ x.next
  pub behind : q.behind ≡ p.ahead
  pub some : q.lead ≢ []
  pub lead : x.cells ≡ p.lead ++ q.lead

-- a listed step of the run behind leads from one pair to the other
pub record Follows {S : Type 0} (m : Behaviour S) (p q : Pair S) : Type 0 where
  pub step : Step S
  pub listed : IsListed (m.steps p.behind) step
  pub moved : StaysBehind p step q ⊎ GetsAhead p step q

-- the pair that follows when the run behind takes a step, by what becomes of the lead; none where
-- the runs give different cells
abbrev pub pair_behind : {S : Type 0} → Pair S → Step S → Advanced → Option (Pair S)
pair_behind p x (Still rest) = Some (record { ahead = p.ahead; behind = x.next; lead = rest.now })
pair_behind p x (Swapped rest) = Some (record { ahead = x.next; behind = p.ahead; lead = rest.now })
pair_behind p x Apart = None

-- `advance` decides which pair follows when the run behind takes a step
abbrev pub AdvanceDecides : Type 0 → Type 0
AdvanceDecides S =
    (p q : Pair S) (x : Step S) (advanced : Advanced) → IsAdvanced p.lead x.cells advanced
    → (StaysBehind p x q ⊎ GetsAhead p x q) ↔ (pair_behind p x advanced ≡ Some q)

-- ---- Closed sets

-- a set of states and a set of pairs
pub record Sets (S : Type 0) : Type 1 where
  pub has_state : S → Type 0
  pub has_pair : Pair S → Type 0

-- the pair with its runs exchanged
abbrev pub swapped : {S : Type 0} → Pair S → Pair S
swapped p = record { ahead = p.behind; behind = p.ahead; lead = p.lead }

-- the set has the pair as it is, or swapped where its lead is empty
abbrev pub InEitherOrder : {S : Type 0} → (Pair S → Type 0) → Pair S → Type 0
InEitherOrder Has p = Has p ⊎ ((p.lead ≡ []) × Has (swapped p))

-- the sets have the pair, in either order
abbrev pub HasPair : {S : Type 0} → Sets S → Pair S → Type 0
HasPair sets p = InEitherOrder sets.has_pair p

-- the sets are closed under a machine's steps
pub record IsClosed {S : Type 0} (m : Behaviour S) (sets : Sets S) : Type 0 where
  -- the start is one of the states
  pub start : sets.has_state m.start
  -- each step from one of the states leads to one of them
  pub steps : (s : S) (x : Step S) → sets.has_state s → IsListed (m.steps s) x → sets.has_state x.next
  -- each split of one of the states is among the pairs
  pub splits : (s : S) (p : Pair S) → sets.has_state s → Splits (m.steps s) p → HasPair sets p
  -- where the run behind of one of the pairs takes a step, the pair that follows is among the pairs
  pub moves : (p q : Pair S) → sets.has_pair p → Follows m p q → HasPair sets q
  -- none of the pairs has an empty lead and two final states
  pub ends : (p : Pair S) → sets.has_pair p → p.lead ≡ [] → IsTrue (m.ends p.ahead) → IsTrue (m.ends p.behind) → ⊥

-- the sets whose members are what the numbers give
abbrev pub numbered : {S : Type 0} → (ℕ → Option S) → (ℕ → Option (Pair S)) → Sets S
numbered states pairs = record {
  has_state = λ s. (number : ℕ) × (states number ≡ Some s);
  has_pair = λ p. (number : ℕ) × (pairs number ≡ Some p);
}
