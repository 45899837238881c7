-- The faults of texts. They are this project's own choice: the manual says nothing of a character
-- without a definition.
use Rattle.std.specs.Prelude.{ℕ, not, position, List, Option, Some, None, ◌≡◌}
use Rattle.brl_rules.specs.TableView.{TableView}
use Rattle.brl_rules.specs.Text.{is_defined}
use Rattle.brl_forward.specs.declared.fault.ConfirmFault.{ConfirmFault}
use Rattle.brl_forward.specs.declared.fault.ConfirmFault.TheVariants as confirm
use Rattle.brl_forward.specs.declared.fault.ForwardFault.{ForwardFault}
use Rattle.brl_forward.specs.declared.fault.ForwardFault.TheVariants as forward
use Rattle.brl_forward.specs.declared.fault.Side.{Side}
use Rattle.brl_forward.specs.declared.fault.Side.TheVariants.{Left, Right}

-- the first position, from 0, whose character the table doesn't define
abbrev pub first_unknown : TableView → List ℕ → Option ℕ
first_unknown t text = position (λ c. not (is_defined t c)) text

-- the fault of a text names that position
abbrev pub IsFaultOf : TableView → List ℕ → ForwardFault → Type 0
IsFaultOf t text (forward.UnknownChar place) = first_unknown t text ≡ Some place

-- a fault of a text, as the fault of this one of two texts
abbrev pub fault_of_side : Side → ForwardFault → ConfirmFault
fault_of_side side (forward.UnknownChar place) = confirm.UnknownChar side place

-- the fault of one of two texts names this one and the position
abbrev pub IsFaultOfSide : Side → TableView → List ℕ → ConfirmFault → Type 0
IsFaultOfSide side t text (confirm.UnknownChar named place) = (named ≡ side) × (first_unknown t text ≡ Some place)

-- the fault of two texts: the left one comes before the right one
abbrev pub IsFaultOfTwo : TableView → List ℕ → List ℕ → ConfirmFault → Type 0
IsFaultOfTwo t left right (confirm.UnknownChar Left place) = first_unknown t left ≡ Some place
IsFaultOfTwo t left right (confirm.UnknownChar Right place) = (first_unknown t left ≡ None) × (first_unknown t right ≡ Some place)
