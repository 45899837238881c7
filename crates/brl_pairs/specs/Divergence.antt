-- Where two paths diverge: they begin with the same steps, and go on with two different ones. Sets
-- that are closed but for some pairs of rules leave paths with the same cells no other place to
-- diverge at. These definitions are this project's own choice.
use Rattle.std.specs.Prelude.{◌≡◌, ◌≢◌, ℕ, Bool, false, ◌&&◌, ◌||◌, ◌==◌, IsTrue, List, [], ◌∷◌, ◌++◌, ◌⊎◌}
use Rattle.std.specs.List.{list_any}
use Rattle.brl_pairs.specs.declared.step.Pair.{Pair}
use Rattle.brl_pairs.specs.declared.step.Step.{Step}
use Rattle.brl_pairs.specs.Pairs.{Follows, HasPair, Sets, Splits}
use Rattle.brl_pairs.specs.Runs.{Accepts, Behaviour, IsListed, IsListedAt, IsPath, Reaches, cells_of}

-- whether these are the two rule numbers of the pair, in either order
abbrev pub are_rules : ℕ → ℕ → ℕ × ℕ → Bool
are_rules r s pair = ((pair.0 == r) && (pair.1 == s)) || ((pair.0 == s) && (pair.1 == r))

-- whether these are the two rule numbers of one of the pairs
abbrev pub has_rules : List (ℕ × ℕ) → ℕ → ℕ → Bool
has_rules pairs r s = list_any (are_rules r s) pairs

-- the rules of two steps are one of these pairs
abbrev pub HaveRules : {S : Type 0} → List (ℕ × ℕ) → Step S → Step S → Type 0
HaveRules rules x y = IsTrue (has_rules rules x.rule y.rule)

-- ---- Divergence

-- two lists of steps begin with the same steps, and go on with two different ones
pub record Divergence {S : Type 0} (first second : List (Step S)) : Type 0 where
  pub before : List (Step S)
  pub one : Step S
  pub other : Step S
  pub first_rest : List (Step S)
  pub second_rest : List (Step S)
  pub differ : one ≢ other
  pub first_steps : first ≡ before ++ one ∷ first_rest
  pub second_steps : second ≡ before ++ other ∷ second_rest

-- two lists of steps diverge at one of these pairs of rules: with steps of these rules
abbrev pub DivergeAt : {S : Type 0} → List (ℕ × ℕ) → List (Step S) → List (Step S) → Type 0
DivergeAt rules first second = (at : Divergence first second) × HaveRules rules at.one at.other

-- two lists of steps diverge at one place: the steps before it are determined, and so are the two
-- with which they go on
abbrev pub DivergeOnce : Type 0 → Type 0
DivergeOnce S =
    (first second : List (Step S)) (p q : Divergence first second) → (p.before ≡ q.before) × (p.one ≡ q.one) × (p.other ≡ q.other)

-- the state to which the same steps lead lists the two different ones, at different places
pub record IsListedDivergence {S : Type 0} (m : Behaviour S) {first second : List (Step S)} (at : Divergence first second) : Type 0 where
  pub state : S
  pub i : ℕ
  pub j : ℕ
  pub reached : Reaches m m.start at.before state
  pub differ : i ≢ j
  pub one_listed : IsListedAt (m.steps state) i at.one
  pub other_listed : IsListedAt (m.steps state) j at.other

-- two paths diverge where a state lists two steps
abbrev pub DivergeWhereListed : {S : Type 0} → Behaviour S → Type 0
DivergeWhereListed {S} m =
    (first second : List (Step S)) → IsPath m m.start first → IsPath m m.start second → (at : Divergence first second) → IsListedDivergence m at

-- ---- No divergence but at some pairs of rules

-- two paths from the start to final states that give the same cells are one path, or diverge at one
-- of these pairs of rules
abbrev pub DivergeOnlyAt : {S : Type 0} → List (ℕ × ℕ) → Behaviour S → Type 0
DivergeOnlyAt {S} rules m =
    (first second : List (Step S)) → IsPath m m.start first → IsPath m m.start second → cells_of first ≡ cells_of second
    → (first ≡ second) ⊎ DivergeAt rules first second

-- wherever two paths from the start to final states that give the same cells diverge, it is at one
-- of these pairs of rules
abbrev pub HasEachDivergence : {S : Type 0} → List (ℕ × ℕ) → Behaviour S → Type 0
HasEachDivergence {S} rules m =
    (first second : List (Step S)) → IsPath m m.start first → IsPath m m.start second → cells_of first ≡ cells_of second
    → (at : Divergence first second) → HaveRules rules at.one at.other

-- two texts diverge at one of these pairs of rules: paths that accept them do
abbrev pub TextsDivergeAt : {S : Type 0} → Behaviour S → List (ℕ × ℕ) → List ℕ → List ℕ → Type 0
TextsDivergeAt m rules left right = (p : Accepts m left) × (q : Accepts m right) × DivergeAt rules p.path q.path

-- two texts that are translated to the same cells, whatever their length, are equal, or diverge at
-- one of these pairs of rules
abbrev pub IsUnambiguousBut : {S : Type 0} → List (ℕ × ℕ) → Behaviour S → Type 0
IsUnambiguousBut rules m =
    (left right : List ℕ) → IsTrue (m.is_text left) → IsTrue (m.is_text right) → m.translation left ≡ m.translation right
    → (left ≡ right) ⊎ TextsDivergeAt m rules left right

-- ---- Complete lists

-- two different texts of the machine that are translated to the same cells diverge at the pair of
-- these rules
pub record IsClashAt {S : Type 0} (m : Behaviour S) (r s : ℕ) (left right : List ℕ) : Type 0 where
  pub left_text : IsTrue (m.is_text left)
  pub right_text : IsTrue (m.is_text right)
  pub differ : left ≢ right
  pub same_cells : m.translation left ≡ m.translation right
  pub diverge : TextsDivergeAt m ((r, s) ∷ []) left right

-- the list has each pair of rules at which two such texts diverge
abbrev pub HasEachClash : {S : Type 0} → List (ℕ × ℕ) → Behaviour S → Type 0
HasEachClash rules m = (r s : ℕ) (left right : List ℕ) → IsClashAt m r s left right → IsTrue (has_rules rules r s)

-- The list is complete: two texts with the same translation are equal or diverge at one of its
-- pairs of rules. And each of its pairs has two different ones that diverge at it.
pub record IsCompleteList {S : Type 0} (m : Behaviour S) (rules : List (ℕ × ℕ)) : Type 0 where
  pub no_other : IsUnambiguousBut rules m
  pub each : (r s : ℕ) → IsTrue (has_rules rules r s) → (left : List ℕ) × (right : List ℕ) × IsClashAt m r s left right

-- ---- Closed sets

-- The sets are closed under a machine's steps, but for splits into two steps of this kind.
pub record IsClosedExcept {S : Type 0} (m : Behaviour S) (Kind : Step S → Step S → Type 0) (sets : Sets S) : Type 0 where
  -- the start is one of the states
  pub start : sets.has_state m.start
  -- each step from one of the states leads to one of them
  pub steps : (s : S) (x : Step S) → sets.has_state s → IsListed (m.steps s) x → sets.has_state x.next
  -- each split of one of the states is into steps of this kind, or among the pairs
  pub splits : (s : S) (p : Pair S) → sets.has_state s → (h : Splits (m.steps s) p) → Kind h.longer h.shorter ⊎ HasPair sets p
  -- where the run behind of one of the pairs takes a step, the pair that follows is among the pairs
  pub moves : (p q : Pair S) → sets.has_pair p → Follows m p q → HasPair sets q
  -- none of the pairs has an empty lead and two final states
  pub ends : (p : Pair S) → sets.has_pair p → p.lead ≡ [] → IsTrue (m.ends p.ahead) → IsTrue (m.ends p.behind) → ⊥

-- The sets are closed under a machine's steps, but for splits into two steps of one of these pairs
-- of rules.
abbrev pub IsClosedBut : {S : Type 0} → Behaviour S → List (ℕ × ℕ) → Sets S → Type 0
IsClosedBut m rules sets = IsClosedExcept m (HaveRules rules) sets

-- Two runs lead from the start to the states of a pair. They diverge with two steps of this kind,
-- and the first gives the cells of the second and then the lead.
pub record HasRunsOf {S : Type 0} (m : Behaviour S) (Kind : Step S → Step S → Type 0) (p : Pair S) : Type 0 where
  pub first : List (Step S)
  pub second : List (Step S)
  pub ahead : Reaches m m.start first p.ahead
  pub behind : Reaches m m.start second p.behind
  pub divergence : Divergence first second
  pub kind : Kind divergence.one divergence.other
  pub lead : cells_of first ≡ cells_of second ++ p.lead

-- the states that steps lead to from the start, and the pairs with two runs that diverge at none of
-- these pairs of rules
abbrev pub sets_apart : {S : Type 0} → Behaviour S → List (ℕ × ℕ) → Sets S
sets_apart {S} m rules = record {
  has_state = λ s. (path : List (Step S)) × Reaches m m.start path s;
  has_pair = HasRunsOf m (λ x y. has_rules rules x.rule y.rule ≡ false);
}
