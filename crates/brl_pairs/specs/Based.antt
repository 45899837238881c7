-- States that share steps: the steps of a state are those of its base, but for some. The project's
-- own choice.
use Rattle.std.specs.Prelude.{◌≡◌, ℕ, Bool, ◌&&◌, ◌==◌, List, [], ◌∷◌, ◌++◌, Option, None, Some, true, filter, if◌then◌else◌, length, nat_eq}
use Rattle.std.specs.Cmp.Lexicographic.{pointwise}
use Rattle.std.specs.List.{flat_map, list_any, range_with_len}
use Rattle.brl_pairs.specs.Order.{at, is_around}
use Rattle.brl_pairs.specs.Runs.{Behaviour, IsListed}
use Rattle.brl_pairs.specs.declared.based.Past.{Past}
use Rattle.brl_pairs.specs.declared.based.Past.TheVariants.{Broken, Same, More}
use Rattle.brl_pairs.specs.declared.step.Step.{Step}

-- What a contract sees of what states share: the base of a state; the gate of a step, by what it
-- reads; whether a state opens a gate; the characters of a state's bars; what they leave past a
-- step, by what it reads and its next state; and that state with more due.
pub record Sharing (S D : Type 0) : Type 0 where
  pub base : S → Option S
  pub gate : List ℕ → ℕ
  pub opens : S → ℕ → Bool
  pub bars : S → List (List ℕ)
  pub past : S → List ℕ → S → Past D
  pub owing : S → D → S

-- the numbers of the bars that meet what a step reads: they begin it, or begin with it
abbrev pub meeting : List (List ℕ) → List ℕ → List ℕ
meeting bars reads = filter (λ number. is_around (at bars number) reads) (range_with_len 0 (length bars))

-- ---- Of equal steps the first

module _ {S : Type 0} (eq : S → S → Bool) where
  -- whether two steps are the same
  abbrev pub is_same : Step S → Step S → Bool
  is_same x y = (x.rule == y.rule) && pointwise nat_eq x.reads y.reads && pointwise nat_eq x.cells y.cells && eq x.next y.next

  -- steps with one more, unless it is one of them
  abbrev pub with_one : List (Step S) → Step S → List (Step S)
  with_one steps x = if list_any (is_same x) steps then steps else steps ++ x ∷ []

  -- steps with more of them, each once
  abbrev pub with_more : List (Step S) → List (Step S) → List (Step S)
  with_more steps [] = steps
  with_more steps (x ∷ more) = with_more (with_one steps x) more

  -- these steps in order, of those that are the same the first
  abbrev pub firsts : List (Step S) → List (Step S)
  firsts steps = with_more [] steps

-- ---- The steps of a state

module _ {S D : Type 0} (h : Sharing S D) where
  -- the step with what is left past it, or none
  abbrev pub with_past : Step S → Past D → List (Step S)
  with_past x Broken = []
  with_past x Same = x ∷ []
  with_past x (More more) = record x { next = h.owing x.next more } ∷ []

  -- the step that a state has of a step of its base: none where it doesn't open the gate, or a bar
  -- is broken
  abbrev pub step_past : S → Step S → List (Step S)
  step_past s x = if h.opens s (h.gate x.reads) then with_past x (h.past s x.reads x.next) else []

-- a step is what a state has of one of these steps of its base
pub record IsPast {S D : Type 0} (h : Sharing S D) (s : S) (listed : List (Step S)) (z : Step S) : Type 0 where
  pub from : Step S
  pub from_listed : IsListed listed from
  pub becomes : step_past h s from ≡ z ∷ []

-- what states share where the machine says of no base; nothing else that it says counts
abbrev pub nothing_shared : {S D : Type 0} → S → Sharing S D
nothing_shared any = record {
  base = λ _. None;
  gate = λ _. 0;
  opens = λ _ _. true;
  bars = λ _. [];
  past = λ _ _ _. Same;
  owing = λ _ _. any;
}

-- what a base says of a state's steps
pub record KeepsSharing {S D : Type 0} (eq : S → S → Bool) (m : Behaviour S) (h : Sharing S D) : Type 0 where
  -- they are what the state has of its base's, in order; of those that became the same the first
  pub steps : (s base : S) → h.base s ≡ Some base → m.steps s ≡ firsts eq (flat_map (step_past h s) (m.steps base))
  -- a step that no bar meets stays as it is
  pub free : (s next : S) (reads : List ℕ) → meeting (h.bars s) reads ≡ [] → h.past s reads next ≡ Same
  -- and no other one becomes the same as a step that stays as it is
  pub apart : (s base : S) (x y z : Step S) → h.base s ≡ Some base → IsListed (m.steps base) x → IsListed (m.steps base) y
      → step_past h s x ≡ z ∷ [] → step_past h s y ≡ z ∷ [] → h.past s x.reads x.next ≡ Same → x ≡ y
