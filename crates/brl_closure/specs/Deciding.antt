-- What a search decides where each of the machine's paths to a final state is a translation.
-- These are this project's own choice.
use Rattle.std.specs.Prelude.{◌≡◌, ◌≢◌, ℕ, IsTrue, List, ◌++◌, Option, map}
use Rattle.std.specs.List.{Contains, flat_map}
use Rattle.brl_pairs.specs.Body.{BodyView}
use Rattle.brl_pairs.specs.Sets.{sets_of}
use Rattle.brl_pairs.specs.Pairs.{HasPair, IsClosed, Sets, numbered}
use Rattle.brl_pairs.specs.Runs.{Behaviour, IsListed, Reaches, cells_of}
use Rattle.brl_pairs.specs.declared.step.Pair.{Pair}
use Rattle.brl_pairs.specs.declared.step.Step.{Step}
use Rattle.brl_closure.specs.Answers.{HasReachedPairs, HasReachedStates}
use Rattle.brl_closure.specs.Reached.{Reached, ReachedPair}

-- Two runs of a pair: steps lead from the start to its one state, and steps to its other. However
-- the two continue, they differ. The first gives the cells of the second and then the lead.
pub record HasTwoRuns {S : Type 0} (m : Behaviour S) (p : Pair S) : Type 0 where
  pub one : List (Step S)
  pub two : List (Step S)
  pub one_reaches : Reaches m m.start one p.ahead
  pub two_reaches : Reaches m m.start two p.behind
  pub diverge : (more other : List (Step S)) → one ++ more ≢ two ++ other
  pub lead : cells_of one ≡ cells_of two ++ p.lead

-- two different texts of a machine that are translated to the same cells
pub record IsClashOf {S : Type 0} (m : Behaviour S) (left right : List ℕ) : Type 0 where
  pub left_text : IsTrue (m.is_text left)
  pub right_text : IsTrue (m.is_text right)
  pub differ : left ≢ right
  pub same_cells : m.translation left ≡ m.translation right

-- a machine has two such texts
abbrev pub HasClash : {S : Type 0} → Behaviour S → Type 0
HasClash m = (left : List ℕ) × (right : List ℕ) × IsClashOf m left right

-- the reached states and the reached pairs
abbrev pub reached_sets : {S : Type 0} → Behaviour S → Sets S
reached_sets m = record { has_state = Reached m; has_pair = ReachedPair m }

-- some sets of states and of pairs are closed; they have numbers, finitely many or not
abbrev pub HasClosedSets : {S : Type 0} → Behaviour S → Type 0
HasClosedSets {S} m = (states : ℕ → Option S) × (pairs : ℕ → Option (Pair S)) × IsClosed m (numbered states pairs)

-- a body lists just the reached states and just the reached pairs, each pair in at least one order
-- where its lead is empty
pub record ListsJustReached {S : Type 0} (m : Behaviour S) (body : BodyView S) : Type 0 where
  pub states : HasReachedStates m body
  pub pairs : HasReachedPairs m body
  pub each_state : (s : S) → Reached m s → (sets_of body).has_state s
  pub each_pair : (p : Pair S) → ReachedPair m p → HasPair (sets_of body) p

-- ---- Finite lists

-- both states of a pair are reached, and the cells of one step of a reached state end with its lead
pub record HasLeadOfStep {S : Type 0} (m : Behaviour S) (p : Pair S) : Type 0 where
  pub ahead : Reached m p.ahead
  pub behind : Reached m p.behind
  pub state : S
  pub step : Step S
  pub reached : Reached m state
  pub listed : IsListed (m.steps state) step
  pub front : List ℕ
  pub ends : step.cells ≡ front ++ p.lead

-- The start is among these states, and each step from one of them leads to one of them. What the
-- cells of such a step end with is among these leads.
pub record HoldsSteps {S : Type 0} (m : Behaviour S) (states : List S) (leads : List (List ℕ)) : Type 0 where
  pub start : Contains states m.start
  pub next : (s : S) (x : Step S) → Contains states s → IsListed (m.steps s) x → Contains states x.next
  pub each_lead : (s : S) (x : Step S) (front lead : List ℕ) → Contains states s → IsListed (m.steps s) x → x.cells ≡ front ++ lead → Contains leads lead

-- the pairs of two of these states with one of these leads
abbrev pub pairs_with : {S : Type 0} → List (List ℕ) → S → S → List (Pair S)
pairs_with leads ahead behind = map (λ lead. record { ahead = ahead; behind = behind; lead = lead }) leads

-- the pairs of two of these states with one of these leads
abbrev pub all_pairs : {S : Type 0} → List S → List (List ℕ) → List (Pair S)
all_pairs states leads = flat_map (λ ahead. flat_map (pairs_with leads ahead) states) states
