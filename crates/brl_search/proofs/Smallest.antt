-- When no character can be left out of the texts of a clash.
use Rattle.std.proofs.Common.{◌≡◌, ℕ, ◌≤◌, IfOk, inl, inr, IsTrue, List, Option, length, sym, subst, subst₂, arith}
use Rattle.std.specs.Prelude.{Result, Ok, Err, IfErr}
use Rattle.std.specs.List.{remove, remove_range}
use Rattle.brl_failure.specs.Failure.{IfFault}
use Rattle.brl_failure.specs.declared.failure.Failure.{Failure}
use Rattle.brl_failure.specs.declared.failure.Failure.TheVariants as failures
use Rattle.brl_forward.specs.ClashView.{ClashView}
use Rattle.brl_forward.specs.Faults.{IsFaultOf, IsFaultOfTwo}
use Rattle.brl_forward.specs.declared.fault.ConfirmFault.{ConfirmFault}
use Rattle.brl_forward.specs.declared.fault.ConfirmFault.TheVariants as confirm
use Rattle.brl_forward.specs.declared.fault.ForwardFault.{ForwardFault}
use Rattle.brl_forward.specs.declared.fault.ForwardFault.TheVariants as forward
use Rattle.brl_forward.specs.declared.fault.Side.TheVariants.{Left, Right}
use Rattle.brl_forward.proofs.UnknownChars.{first_unknown-of_text}
use Rattle.brl_rules.specs.TableView.{TableView}
use Rattle.brl_rules.specs.Text.{is_text}
use Rattle.brl_search.specs.Small.{ClashAt, IsMinimal, IsSmall}
use Rattle.brl_search.specs.Smaller.{IsNone, Keeps}
use Rattle.brl_closure.specs.declared.search.texts.Texts.{Texts}
use Rattle.brl_search.proofs.Parts.{part-is, part-part, part-self, remove-past}

-- ---- Texts of the table have no fault

no_fault : (t : TableView) (text : List ℕ) (fault : ForwardFault) → IsTrue (is_text t text) → IsFaultOf t text fault → ⊥
no_fault t text (forward.UnknownChar place) is fault = (let none = first_unknown-of_text t text is in cc)

no_fault_of_two : (t : TableView) (left right : List ℕ) (fault : ConfirmFault) → IsTrue (is_text t left) → IsTrue (is_text t right) → IsFaultOfTwo t left right fault → ⊥
no_fault_of_two t left right (confirm.UnknownChar Left place) is other fault = (let none = first_unknown-of_text t left is in cc)
no_fault_of_two t left right (confirm.UnknownChar Right place) is other fault = (let none = first_unknown-of_text t right other in let there = fault.1 in cc)

-- what is asked of a text of the table's characters has no fault
pub faultless_text : {T : Type 0} (t : TableView) (text : List ℕ) (outcome : Result T (Failure ForwardFault)) → IsTrue (is_text t text) → IfErr outcome (IfFault (IsFaultOf t text)) → IfErr outcome (IfFault (λ _. ⊥))
faultless_text t text (Ok value) is fault = tt
faultless_text t text (Err failures.Memory) is fault = tt
faultless_text t text (Err (failures.Fault fault)) is applies = no_fault t text fault is applies

-- what is asked of two such texts has none
pub faultless_texts : {T : Type 0} (t : TableView) (left right : List ℕ) (outcome : Result T (Failure ConfirmFault)) → IsTrue (is_text t left) → IsTrue (is_text t right) → IfErr outcome (IfFault (IsFaultOfTwo t left right)) → IfErr outcome (IfFault (λ _. ⊥))
faultless_texts t left right (Ok value) is other fault = tt
faultless_texts t left right (Err failures.Memory) is other fault = tt
faultless_texts t left right (Err (failures.Fault fault)) is other applies = no_fault_of_two t left right fault is other applies

-- ---- Parts of the texts of a clash

module _ (t : TableView) (rules : Option (ℕ × ℕ)) where
  pub keeps-given : (given : Texts) → ClashAt t rules given.left.items given.right.items → Keeps t rules given given
  keeps-given given clash = record { clash = clash; left_part = part-self given.left.items; right_part = part-self given.right.items }

  pub keeps-more : (given texts next : Texts) → Keeps t rules given texts → Keeps t rules texts next → Keeps t rules given next
  keeps-more given texts next h k = record {
    clash = k.clash;
    left_part = part-part next.left.items texts.left.items given.left.items k.left_part h.left_part;
    right_part = part-part next.right.items texts.right.items given.right.items k.right_part h.right_part;
  }

  -- texts without some of their characters
  pub keeps-without : (given next : Texts) (i k j l : ℕ) → i ≤ k → j ≤ l → next.left.items ≡ remove_range given.left.items i k → next.right.items ≡ remove_range given.right.items j l
      → ClashAt t rules next.left.items next.right.items → Keeps t rules given next
  keeps-without given next i k j l h g left right clash = record {
    clash = clash;
    left_part = part-is next.left.items given.left.items i k h left;
    right_part = part-is next.right.items given.right.items j l g right;
  }

  -- ---- No character can be left out

  pub minimal-from_none : (texts : Texts) → ((i j : ℕ) → i ≤ length texts.left.items → j ≤ length texts.right.items → IsNone t rules texts i j) → IsMinimal t rules texts.left.items texts.right.items
  minimal-from_none texts none =
      let left = texts.left.items in
      let right = texts.right.items in
      record {
        of_left = λ i within clash.
            none i (length right) (omega arith) (omega arith) (inl within)
            (subst (λ (text : List ℕ). ClashAt t rules (remove left i) text) (sym (remove-past right (length right) (omega arith))) clash);
        of_right = λ j within clash.
            none (length left) j (omega arith) (omega arith) (inr within)
            (subst (λ (text : List ℕ). ClashAt t rules text (remove right j)) (sym (remove-past left (length left) (omega arith))) clash);
        of_both = λ i j within other clash. none i j (omega arith) (omega arith) (inl within) clash;
      }

  -- a clash of small texts is small
  pub small-of : {E : Type 0} (left right : List ℕ) (result : Result ClashView E) → IfOk result (λ clash. clash.left ≡ left) → IfOk result (λ clash. clash.right ≡ right) → IsSmall t rules left right
      → IfOk result (λ clash. IsSmall t rules clash.left clash.right)
  small-of left right (Ok clash) one other small = subst₂ (IsSmall t rules) (sym one) (sym other) small
  small-of left right (Err fault) one other small = tt
