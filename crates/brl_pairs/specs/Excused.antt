-- Pairs of rules that are looked up, and edges whose split need not be listed. The project's own
-- choice.
use Rattle.std.specs.Prelude.{◌≡◌, ℕ, Bool, ◌&&◌, ◌||◌, ◌==◌, IsTrue, List, ◌⊎◌, nat_eq}
use Rattle.std.specs.List.{list_any}
use Rattle.brl_pairs.specs.Divergence.{has_rules}
use Rattle.brl_pairs.specs.declared.edge.Edge.{Edge}

-- whether one of the pairs has this rule
abbrev pub names_rule : List (ℕ × ℕ) → ℕ → Bool
names_rule pairs rule = list_any (λ pair. (rule == pair.0) || (rule == pair.1)) pairs

-- ---- Looking up

-- whether two pairs are the same
abbrev pub is_pair : ℕ × ℕ → ℕ × ℕ → Bool
is_pair x y = (x.0 == y.0) && (x.1 == y.1)

-- whether the pair is one of these, in its order
abbrev pub has_pair : List (ℕ × ℕ) → ℕ × ℕ → Bool
has_pair pairs pair = list_any (is_pair pair) pairs

-- a set has just these pairs, and another just their rules
pub record AreLookedUp (given set : List (ℕ × ℕ)) (rules : List ℕ) : Type 0 where
  pub same_pairs : (pair : ℕ × ℕ) → has_pair set pair ≡ has_pair given pair
  pub same_rules : (rule : ℕ) → list_any (nat_eq rule) rules ≡ names_rule given rule

-- ---- Edges

-- the edges of two steps that may be exchanged: their rules are one of these pairs, and they have
-- the same cells and the same next state
pub record AreExchangeableEdges (exchanged : List (ℕ × ℕ)) (x y : Edge) : Type 0 where
  pub rules : IsTrue (has_rules exchanged x.rule y.rule)
  pub cells : x.cells ≡ y.cells
  pub next : x.next ≡ y.next

-- the edges of two steps that are excused
abbrev pub AreExcusedEdges : List (ℕ × ℕ) → List (ℕ × ℕ) → Edge → Edge → Type 0
AreExcusedEdges exchanged rules x y = IsTrue (has_rules rules x.rule y.rule) ⊎ AreExchangeableEdges exchanged x y
