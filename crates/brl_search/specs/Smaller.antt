-- Internal. How the texts of a clash are made smaller.
use Rattle.std.specs.Prelude.{◌≡◌, ◌<◌, ◌≤◌, ◌+◌, ◌*◌, ◌%◌, ◌^◌, ◌⊎◌, ◌&&◌, ◌||◌, ◌==◌, ℕ, Bool, false, List, [], ◌∷◌, Option, if◌then◌else◌, length, nat_eq, nat_lt, slice_index}
use Rattle.std.specs.Bool.{beq}
use Rattle.std.specs.Cmp.Lexicographic.{pointwise}
use Rattle.std.specs.List.{fold, remove}
use Rattle.brl_forward.specs.declared.steps.Traced.{Traced}
use Rattle.brl_pairs.specs.Divergence.{are_rules}
use Rattle.brl_rules.specs.TableView.{TableView}
use Rattle.brl_rules.specs.Translation.{translation}
use Rattle.brl_search.specs.Small.{ClashAt, IsPartOf, most_characters}
use Rattle.brl_traces.specs.Traces.{begins_in_caps_run, taken}
use Rattle.brl_closure.specs.declared.search.texts.Texts.{Texts}

-- texts that clash, at the pair of rules where one is given, and are parts of two others
pub record Keeps (t : TableView) (rules : Option (ℕ × ℕ)) (given texts : Texts) : Type 0 where
  pub clash : ClashAt t rules texts.left.items texts.right.items
  pub left_part : IsPartOf texts.left.items given.left.items
  pub right_part : IsPartOf texts.right.items given.right.items

-- the number of characters of both texts
abbrev pub size_of : Texts → ℕ
size_of texts = length texts.left.items + length texts.right.items

-- one of them has more than 256 characters
abbrev pub is_long : Texts → Bool
is_long texts = nat_lt most_characters (length texts.left.items) || nat_lt most_characters (length texts.right.items)

-- The texts without the characters at two places don't clash so. A place after the last character
-- means the whole text, and one of the two is to be in its text.
abbrev pub IsNone : TableView → Option (ℕ × ℕ) → Texts → ℕ → ℕ → Type 0
IsNone t rules texts i j =
    (i < length texts.left.items) ⊎ (j < length texts.right.items)
    → ClashAt t rules (remove texts.left.items i) (remove texts.right.items j) → ⊥

-- ---- Keys

-- a key after one more cell
unfoldable pub mixed : ℕ → ℕ → ℕ
mixed key cell = (key * 31 % 2 ^ 64 + (cell + 1)) % 2 ^ 64

-- a number that lists of the same cells share, and others hardly ever
unfoldable pub key_of : List ℕ → ℕ
key_of cells = fold mixed 0 cells

-- the keys of the translations of a text without each one of its characters, and of the whole text
pub record AreKeysOf (t : TableView) (text keys : List ℕ) : Type 0 where
  pub count : length keys ≡ length text + 1
  pub each : (i : ℕ) → i ≤ length text → slice_index keys i ≡ key_of (translation t (remove text i))

-- ---- Traces

-- whether two steps of two texts are the same
abbrev pub are_same_steps : TableView → List ℕ → List ℕ → Traced → Traced → Bool
are_same_steps t left right x y =
    (x.rule == y.rule) && pointwise nat_eq x.cells y.cells && pointwise nat_eq (taken left x) (taken right y)
    && beq (begins_in_caps_run t left x) (begins_in_caps_run t right y)

-- whether two traces begin with the same steps, and go on with two different ones of this pair of
-- rules
abbrev pub diverge_at : TableView → List ℕ → List ℕ → ℕ × ℕ → List Traced → List Traced → Bool
diverge_at t left right pair [] ys = false
diverge_at t left right pair (x ∷ xs) [] = false
diverge_at t left right pair (x ∷ xs) (y ∷ ys) =
    if are_same_steps t left right x y then diverge_at t left right pair xs ys else are_rules x.rule y.rule pair
