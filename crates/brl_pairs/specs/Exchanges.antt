-- Steps that may be exchanged in any path, since they give the same cells and lead to the same
-- state. Sets that are closed but for these, and for some pairs of rules, leave two paths with the
-- same cells nothing but exchanges, up to a place where they diverge at one of the pairs. These
-- definitions are this project's own choice.
use Rattle.std.specs.Prelude.{◌≡◌, ◌≢◌, ℕ, IsTrue, List, ◌∷◌, ◌++◌, ◌⊎◌}
use Rattle.std.specs.List.{AllZip}
use Rattle.brl_pairs.specs.declared.step.Step.{Step}
use Rattle.brl_pairs.specs.Divergence.{HaveRules, IsClosedExcept}
use Rattle.brl_pairs.specs.Pairs.{Sets}
use Rattle.brl_pairs.specs.Runs.{Accepts, Behaviour, IsPath, cells_of}

-- two steps may be exchanged: their rules are one of these pairs, they give the same cells, and
-- they lead to the same state
pub record AreExchangeable {S : Type 0} (exchanged : List (ℕ × ℕ)) (x y : Step S) : Type 0 where
  pub rules : HaveRules exchanged x y
  pub cells : x.cells ≡ y.cells
  pub next : x.next ≡ y.next

-- two steps are the same, or may be exchanged
abbrev pub AreAlike : {S : Type 0} → List (ℕ × ℕ) → Step S → Step S → Type 0
AreAlike exchanged x y = (x ≡ y) ⊎ AreExchangeable exchanged x y

-- two lists of steps are the same but for exchanges, step by step
abbrev pub DifferByExchanges : {S : Type 0} → List (ℕ × ℕ) → List (Step S) → List (Step S) → Type 0
DifferByExchanges exchanged first second = AllZip (AreAlike exchanged) first second

-- two lists of steps begin with the same steps but for exchanges, and go on with two different ones
-- of one of these pairs of rules
pub record DivergeAfterExchanges {S : Type 0} (exchanged rules : List (ℕ × ℕ)) (first second : List (Step S)) : Type 0 where
  pub first_before : List (Step S)
  pub second_before : List (Step S)
  pub one : Step S
  pub other : Step S
  pub first_rest : List (Step S)
  pub second_rest : List (Step S)
  pub before : DifferByExchanges exchanged first_before second_before
  pub differ : one ≢ other
  pub pair : HaveRules rules one other
  pub first_steps : first ≡ first_before ++ one ∷ first_rest
  pub second_steps : second ≡ second_before ++ other ∷ second_rest

-- two lists of steps differ by exchanges, to their ends or up to a place where they diverge at one
-- of these pairs of rules
abbrev pub DifferByExchangesBut : {S : Type 0} → List (ℕ × ℕ) → List (ℕ × ℕ) → List (Step S) → List (Step S) → Type 0
DifferByExchangesBut exchanged rules first second = DifferByExchanges exchanged first second ⊎ DivergeAfterExchanges exchanged rules first second

-- two paths from the start to final states that give the same cells do so
abbrev pub PathsDifferByExchangesBut : {S : Type 0} → List (ℕ × ℕ) → List (ℕ × ℕ) → Behaviour S → Type 0
PathsDifferByExchangesBut {S} exchanged rules m =
    (first second : List (Step S)) → IsPath m m.start first → IsPath m m.start second → cells_of first ≡ cells_of second
    → DifferByExchangesBut exchanged rules first second

-- two texts that are translated to the same cells, whatever their length, are accepted by paths
-- that do so
abbrev pub TextsDifferByExchangesBut : {S : Type 0} → List (ℕ × ℕ) → List (ℕ × ℕ) → Behaviour S → Type 0
TextsDifferByExchangesBut exchanged rules m =
    (left right : List ℕ) → IsTrue (m.is_text left) → IsTrue (m.is_text right) → m.translation left ≡ m.translation right
    → (p : Accepts m left) × (q : Accepts m right) × DifferByExchangesBut exchanged rules p.path q.path

-- two steps are of one of these pairs of rules, or may be exchanged
abbrev pub AreExcused : {S : Type 0} → List (ℕ × ℕ) → List (ℕ × ℕ) → Step S → Step S → Type 0
AreExcused exchanged rules x y = HaveRules rules x y ⊎ AreExchangeable exchanged x y

-- The sets are closed under a machine's steps, but for splits into such steps.
abbrev pub IsClosedUpTo : {S : Type 0} → Behaviour S → List (ℕ × ℕ) → List (ℕ × ℕ) → Sets S → Type 0
IsClosedUpTo m exchanged rules sets = IsClosedExcept m (AreExcused exchanged rules) sets
