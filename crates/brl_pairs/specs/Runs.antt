-- Machines and their runs: steps from one state to the next. No table is needed: a machine has
-- texts, and a translation of each. These definitions are this project's own choice.
use Rattle.std.specs.Prelude.{◌≡◌, ◌≢◌, ℕ, ◌<◌, ◌≤◌, Bool, IsTrue, List, [], ◌∷◌, length, Some, slice_get, flat_map}
use Rattle.brl_pairs.specs.declared.step.Step.{Step}

-- What a contract sees of a machine with these states: where it starts, the steps that it lists
-- from each state, which states are final, which lists of characters are its texts, and the cells
-- of each text.
pub record Behaviour (S : Type 0) : Type 0 where
  pub start : S
  pub steps : S → List (Step S)
  pub ends : S → Bool
  pub is_text : List ℕ → Bool
  pub translation : List ℕ → List ℕ

module _ {S : Type 0} where
  -- the step is listed at this place
  abbrev pub IsListedAt : List (Step S) → ℕ → Step S → Type 0
  IsListedAt listed place x = slice_get listed place ≡ Some x

  -- the step is listed at some place
  abbrev pub IsListed : List (Step S) → Step S → Type 0
  IsListed listed x = (place : ℕ) × IsListedAt listed place x

  -- the characters that the steps of a path read, joined
  abbrev pub reads_of : List (Step S) → List ℕ
  reads_of path = flat_map (λ (x : Step S). x.reads) path

  -- the cells that the steps of a path give, joined
  abbrev pub cells_of : List (Step S) → List ℕ
  cells_of path = flat_map (λ (x : Step S). x.cells) path

  -- these steps may be taken from the state, one after another, and the last of them leads to a
  -- final state
  abbrev pub IsPath : Behaviour S → S → List (Step S) → Type 0
  IsPath m s [] = IsTrue (m.ends s)
  IsPath m s (x ∷ path) = IsListed (m.steps s) x × IsPath m x.next path

  -- these steps lead from one state to another
  abbrev pub Reaches : Behaviour S → S → List (Step S) → S → Type 0
  Reaches m s [] r = s ≡ r
  Reaches m s (x ∷ path) r = IsListed (m.steps s) x × Reaches m x.next path r

-- ---- Laws

-- a step gives 1 to 1,024 cells and reads at least one character
pub record IsGoodStep {S : Type 0} (x : Step S) : Type 0 where
  pub some_cells : 1 ≤ length x.cells
  pub few_cells : length x.cells ≤ 1024
  pub some_reads : 1 ≤ length x.reads

-- the second step differs from the first, and its rule has no lower number
pub record Precedes {S : Type 0} (x y : Step S) : Type 0 where
  pub differ : x ≢ y
  pub ascend : x.rule ≤ y.rule

-- each listed step precedes those after it: none is listed twice, and they ascend by rule number
abbrev pub IsInOrder : {S : Type 0} → List (Step S) → Type 0
IsInOrder {S} listed = (i j : ℕ) (x y : Step S) → i < j → IsListedAt listed i x → IsListedAt listed j y → Precedes x y

-- a path from the start to a final state, which reads the text and gives its translation
pub record Accepts {S : Type 0} (m : Behaviour S) (text : List ℕ) : Type 0 where
  pub path : List (Step S)
  pub is_path : IsPath m m.start path
  pub reads : reads_of path ≡ text
  pub cells : cells_of path ≡ m.translation text

-- the laws of every machine: in every value of the state type its steps are good and in order, and
-- each text is accepted by a path that gives its translation
pub record KeepsLaws {S : Type 0} (m : Behaviour S) : Type 0 where
  pub good_steps : (s : S) (x : Step S) → IsListed (m.steps s) x → IsGoodStep x
  pub in_order : (s : S) → IsInOrder (m.steps s)
  pub accepts : (text : List ℕ) → IsTrue (m.is_text text) → Accepts m text

-- ---- Properties that a machine may have

-- two texts that are translated to the same cells are equal, whatever their length
abbrev pub IsUnambiguous : {S : Type 0} → Behaviour S → Type 0
IsUnambiguous m = (left right : List ℕ) → IsTrue (m.is_text left) → IsTrue (m.is_text right) → m.translation left ≡ m.translation right → left ≡ right

-- each path from the start to a final state reads a text and gives its translation, and no other
-- path reads that text
pub record IsExact {S : Type 0} (m : Behaviour S) : Type 0 where
  pub text : (path : List (Step S)) → IsPath m m.start path → IsTrue (m.is_text (reads_of path))
  pub translates : (path : List (Step S)) → IsPath m m.start path → cells_of path ≡ m.translation (reads_of path)
  pub one_path : (path other : List (Step S)) → IsPath m m.start path → IsPath m m.start other → reads_of path ≡ reads_of other → path ≡ other
