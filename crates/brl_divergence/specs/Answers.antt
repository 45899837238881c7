-- What a listing of a machine may answer. These are this project's own choice.
use Rattle.std.specs.Prelude.{ℕ, ◌+◌, ◌<◌, ◌≤◌, ◌⊎◌}
use Rattle.std.specs.BTreeMap.{btree_map_len}
use Rattle.brl_pairs.specs.Body.{BodyView}
use Rattle.brl_pairs.specs.Divergence.{IsClosedBut}
use Rattle.brl_pairs.specs.Runs.{Behaviour}
use Rattle.brl_pairs.specs.Sets.{sets_of}
use Rattle.brl_closure.specs.Answers.{AreInOrder, HasReachedPairs, HasReachedStates, IsWithin}
use Rattle.brl_closure.specs.Reached.{AtLeast, Reached, ReachedPair, SamePair, SameState}
use Rattle.brl_divergence.specs.Listed.{AreDivergences, IsAscending, RuleTexts, rules_of}
use Rattle.brl_divergence.specs.declared.divergences.Divergences.{Divergences}
use Rattle.brl_divergence.specs.declared.divergences.Divergences.TheVariants.{Complete, Partial}

-- the pairs of rules ascend, and each has two texts that diverge at it
pub record IsListed {S : Type 0} (m : Behaviour S) (list : RuleTexts) : Type 0 where
  pub ascending : IsAscending list
  pub divergences : AreDivergences m list

-- A complete list: sets of reached states and pairs are closed but for its pairs of rules. They are
-- within the limit, and the states are in the order in which they are found.
pub record IsComplete {S : Type 0} (m : Behaviour S) (limit : ℕ) (list : RuleTexts) (body : BodyView S) : Type 0 where
  pub closed : IsClosedBut m (rules_of list) (sets_of body)
  pub states : HasReachedStates m body
  pub pairs : HasReachedPairs m body
  pub within : IsWithin limit body
  pub order : AreInOrder m body.states

-- one of three numbers is more than the limit, none by more than one, and no more states or pairs
-- are counted than are reached
pub record IsPartial {S : Type 0} (m : Behaviour S) (limit : ℕ) (list : RuleTexts) (states pairs : ℕ) : Type 0 where
  pub passed : (limit < states) ⊎ ((limit < pairs) ⊎ (limit < btree_map_len list))
  pub few_states : states ≤ limit + 1
  pub few_pairs : pairs ≤ limit + 1
  pub states_reached : AtLeast states SameState (Reached m)
  pub pairs_reached : AtLeast pairs SamePair (ReachedPair m)

-- what holds of the pairs of rules that a listing of a machine finds
abbrev pub AreDivergencesOf : {S : Type 0} → Behaviour S → ℕ → Divergences S → Type 0
AreDivergencesOf m limit (Complete list body) = IsListed m list × (btree_map_len list ≤ limit) × IsComplete m limit list body
AreDivergencesOf m limit (Partial list states pairs) = IsListed m list × (btree_map_len list ≤ limit + 1) × IsPartial m limit list states pairs
