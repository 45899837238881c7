-- Internal. Parts of a state's steps that aren't kept yet, and the steps of theirs that are taken
-- by numbers so far.
use Rattle.std.specs.Prelude.{◌≡◌, ℕ, ◌<◌, List, [], ◌++◌, length, reverse, Some, slice_get, slice_index}
use Rattle.std.specs.Global.{Vec}
use Rattle.brl_pairs.specs.Listed.{AreListedEdges}
use Rattle.brl_pairs.specs.Runs.{Behaviour, IsListed}
use Rattle.brl_pairs.specs.declared.edge.ListedEdge.{ListedEdge}
use Rattle.brl_pairs.specs.declared.step.Step.{Step}
use Rattle.brl_closure.specs.Trail.{TakesStep}
use Rattle.brl_closure.specs.declared.search.fresh.Fresh.{Fresh}
use Rattle.brl_closure.specs.declared.search.fresh.Place.{Place}
use Rattle.brl_closure.specs.declared.search.fresh.Place.TheVariants.{Known, New}

-- the state with this number lists the step
abbrev pub LeadsFrom : {S : Type 0} → Behaviour S → List S → ℕ → Step S → Type 0
LeadsFrom m states number x = (place : ℕ) × TakesStep m states number place x

-- the part is listed
abbrev pub IsAmong : {P : Type 0} → List P → P → Type 0
IsAmong listed part = (place : ℕ) × (slice_get listed place ≡ Some part)

module _ {S P : Type 0} where
  -- the part itself
  abbrev pub part_of : Fresh S P → P
  part_of f = f.part

  -- all steps of the part are left
  pub record IsBegun (steps_of : P → List (Step S)) (part : P) (f : Fresh S P) : Type 0 where
    pub same : f.part ≡ part
    pub none : f.edges.items ≡ []
    pub all_left : reverse f.left.items ≡ steps_of part

  -- The first steps of the part are taken by numbers, and the others are left. All of them are
  -- steps of the state with this number.
  pub record IsPartly (m : Behaviour S) (steps_of : P → List (Step S)) (states : List S) (cells : List (List ℕ)) (number : ℕ) (f : Fresh S P) : Type 0 where
    pub done : List (Step S)
    pub split : steps_of f.part ≡ done ++ reverse f.left.items
    pub edges : AreListedEdges states cells done f.edges.items
    pub from : (x : Step S) → IsListed (steps_of f.part) x → LeadsFrom m states number x

  -- all steps of the part are taken by numbers
  abbrev pub IsWhole : (P → List (Step S)) → List S → List (List ℕ) → Fresh S P → Type 0
  IsWhole steps_of states cells f = AreListedEdges states cells (steps_of f.part) f.edges.items

  -- a step of the part at this place is left
  pub record HasStepLeft (fresh : List (Fresh S P)) (place : ℕ) : Type 0 where
    pub part : Fresh S P
    pub at : slice_get fresh place ≡ Some part
    pub some : 0 < length part.left.items

  -- ---- Where the parts are

  -- the part is the one with its number, or that at its place among those that aren't kept
  abbrev pub IsAtPlace : List P → List (Fresh S P) → P → Place → Type 0
  IsAtPlace parts fresh part (Known number) = slice_get parts number ≡ Some part
  IsAtPlace parts fresh part (New place) = (f : Fresh S P) × (slice_get fresh place ≡ Some f) × (f.part ≡ part)

  -- these are the places of these parts
  pub record ArePlaced (parts : List P) (fresh : List (Fresh S P)) (listed : List P) (places : List Place) : Type 0 where
    pub count : length places ≡ length listed
    pub each : (k : ℕ) (part : P) (place : Place) → slice_get listed k ≡ Some part → slice_get places k ≡ Some place → IsAtPlace parts fresh part place

  -- these are the numbers of these parts among those that are kept
  pub record HaveNumbers (parts : List P) (fresh : List (Fresh S P)) (numbers : List ℕ) : Type 0 where
    pub count : length numbers ≡ length fresh
    pub each : (k : ℕ) (f : Fresh S P) (number : ℕ) → slice_get fresh k ≡ Some f → slice_get numbers k ≡ Some number → slice_get parts number ≡ Some f.part

  -- one of these is the part with these edges
  pub record IsOneOf (fresh : List (Fresh S P)) (part : P) (edges : Vec ListedEdge) : Type 0 where
    pub place : ℕ
    pub one : Fresh S P
    pub at : slice_get fresh place ≡ Some one
    pub same_part : one.part ≡ part
    pub same_edges : one.edges ≡ edges

-- the number of the part at this place, where those that weren't kept have these numbers
abbrev pub number_at : List ℕ → Place → ℕ
number_at fresh (Known number) = number
number_at fresh (New place) = slice_index fresh place

-- the place isn't beyond this many parts that weren't kept
abbrev pub IsWithin : ℕ → Place → Type 0
IsWithin count (Known number) = Unit {0}
IsWithin count (New place) = place < count
