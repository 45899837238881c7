-- Every pair of rules of a table at which clashing texts diverge. These are this project's own
-- choice.
use Rattle.std.specs.Prelude.{ℕ, ◌+◌, ◌<◌, ◌≤◌, ◌⊎◌, ◌↔◌, All, IsTrue, List, [], ◌∷◌, Some, length, map}
use Rattle.std.specs.List.Sorted.{IsStrictlySortedBy}
use Rattle.brl_closure.specs.Answers.{AreInOrder, HasReachedPairs, HasReachedStates, IsWithin}
use Rattle.brl_closure.specs.Reached.{AtLeast, Reached, ReachedPair, SamePair, SameState}
use Rattle.brl_divergence.specs.Listed.{compare_rules}
use Rattle.brl_pairs.specs.Body.{BodyView}
use Rattle.brl_pairs.specs.Divergence.{IsClosedBut, IsCompleteList, has_rules}
use Rattle.brl_pairs.specs.Sets.{sets_of}
use Rattle.brl_rules.specs.TableView.{TableView}
use Rattle.brl_search.specs.Searched.{State, machine_of}
use Rattle.brl_search.specs.Small.{IsSmall}
use Rattle.brl_traces.specs.Traces.{ClashesDivergeAtWithout, TracesDivergeAt}
use Rattle.brl_search.specs.declared.table_clashes.ClashList.{ClashList}
use Rattle.brl_search.specs.declared.table_clashes.ClashList.TheVariants.{Complete, Partial}
use Rattle.brl_search.specs.declared.table_clashes.RuleClash.{RuleClash}
use Rattle.brl_without.specs.Tables.{IsClashWithout}
use Rattle.brl_without.specs.Without.{without}

-- the pairs of rules of a list
abbrev pub rules_of_clashes : List RuleClash → List (ℕ × ℕ)
rules_of_clashes list = map (λ (c : RuleClash). (c.lesser, c.greater)) list

-- Two texts that use none of some characters clash, and their traces diverge at this pair of rules,
-- the lesser number first. Where neither has more than 256 characters, none can be left out of
-- them so that they clash and diverge there.
pub record IsRuleClash (left_out : List ℕ) (t : TableView) (c : RuleClash) : Type 0 where
  pub in_order : c.lesser ≤ c.greater
  pub clash : IsClashWithout left_out t c.clash.left c.clash.right c.clash.cells
  pub diverge : TracesDivergeAt t ((c.lesser, c.greater) ∷ []) c.clash.left c.clash.right
  pub small : IsSmall t (Some (c.lesser, c.greater)) c.clash.left c.clash.right

-- the pairs of rules ascend, so none is listed twice, and each has such a clash
pub record AreRuleClashes (left_out : List ℕ) (t : TableView) (list : List RuleClash) : Type 0 where
  pub ascending : IsStrictlySortedBy compare_rules (rules_of_clashes list)
  pub each : All (IsRuleClash left_out t) list

-- Any two texts that use none of some characters and that are translated to the same cells are
-- equal, or their traces diverge at one of these pairs of rules. These states and pairs show it,
-- and the list is the one complete list of the machine. It is within the limit, as they are. The
-- states and pairs are reached, and the states are in the order in which they are found.
pub record IsWholeList (left_out : List ℕ) (t : TableView) (limit : ℕ) (list : List RuleClash) (body : BodyView State) : Type 0 where
  pub no_other : ClashesDivergeAtWithout left_out (rules_of_clashes list) t
  pub closed : IsClosedBut (without left_out (machine_of t)) (rules_of_clashes list) (sets_of body)
  pub complete : IsCompleteList (without left_out (machine_of t)) (rules_of_clashes list)
  pub states : HasReachedStates (without left_out (machine_of t)) body
  pub pairs : HasReachedPairs (without left_out (machine_of t)) body
  pub order : AreInOrder (without left_out (machine_of t)) body.states
  pub within : IsWithin limit body
  pub few_rules : length list ≤ limit

-- two texts that use none of some characters clash, and their traces diverge at the pair of these
-- two rules
pub record ClashesDiverge (left_out : List ℕ) (t : TableView) (r s : ℕ) : Type 0 where
  pub left : List ℕ
  pub right : List ℕ
  pub cells : List ℕ
  pub clash : IsClashWithout left_out t left right cells
  pub diverge : TracesDivergeAt t ((r, s) ∷ []) left right

-- a pair of rules is one of these, in either order, just where two such texts diverge at it
abbrev pub AreJustThose : List ℕ → TableView → List (ℕ × ℕ) → Type 0
AreJustThose left_out t rules = (r s : ℕ) → IsTrue (has_rules rules r s) ↔ ClashesDiverge left_out t r s

-- one of three numbers is more than the limit, none by more than one, and no more states or pairs
-- are counted than are reached
pub record IsOverLimit (left_out : List ℕ) (t : TableView) (limit rules states pairs : ℕ) : Type 0 where
  pub passed : (limit < states) ⊎ ((limit < pairs) ⊎ (limit < rules))
  pub few_states : states ≤ limit + 1
  pub few_pairs : pairs ≤ limit + 1
  pub few_rules : rules ≤ limit + 1
  pub states_reached : AtLeast states SameState (Reached (without left_out (machine_of t)))
  pub pairs_reached : AtLeast pairs SamePair (ReachedPair (without left_out (machine_of t)))

-- what a listing of this table with this limit finds for the texts that use none of some characters
abbrev pub AreClashes : List ℕ → TableView → ℕ → ClashList → Type 0
AreClashes left_out t limit (Complete list body) = AreRuleClashes left_out t list.items × IsWholeList left_out t limit list.items body
AreClashes left_out t limit (Partial list states pairs) = AreRuleClashes left_out t list.items × IsOverLimit left_out t limit (length list.items) states pairs
