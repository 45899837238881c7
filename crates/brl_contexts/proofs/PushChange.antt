-- The change of one form more.
use Rattle.std.proofs.Common.{◌≡◌, ◌∙◌, ℕ, ◌+◌, Bool, true, false, List, [], ◌∷◌, ◌++◌, None, Some, ap, refl, slice_get, subst, sym}
use Rattle.brl_contexts.specs.Changes.{AreChangesBelow, AreChangesTo, IsLeftPast, IsRepeated}
use Rattle.brl_contexts.specs.Forms.{AreForms}
use Rattle.brl_contexts.specs.declared.changes.Change.{Change}
use Rattle.brl_contexts.specs.declared.forms.Forms.{Forms}
use Rattle.brl_contexts.specs.declared.named.Named.{Named}
use Rattle.brl_contexts.proofs.ChangesLaws.{with_change, without_change}
use Rattle.brl_contexts.proofs.Repeating.{is_there, was_there}
use Rattle.brl_contexts.proofs.Steps.{any_before, broken, fresh, longer, repeated, untouched}
use Rattle.brl_pairs.specs.Based.{KeepsSharing, Sharing}
use Rattle.brl_pairs.specs.Members.{HaveOneNumber}
use Rattle.brl_pairs.specs.Runs.{Behaviour, KeepsLaws}
use Rattle.brl_pairs.specs.declared.based.Past.{Past}
use Rattle.brl_pairs.specs.declared.based.Past.TheVariants.{Broken, Same, More}
use Rattle.brl_pairs.specs.declared.step.Step.{Step}
use Rattle.brl_pairs.proofs.Lists.{same_place}

-- what is right for a state and its base is right for the state with a number
pub for_all : {S D : Type 0} (eq : S → S → Bool) (m : Behaviour S) (h : Sharing S D) (named : Named S D) (number end : ℕ) (changes : List Change) (state root : S) → slice_get named.states number ≡ Some state
    → h.base state ≡ Some root → AreChangesBelow eq h named state (m.steps root) end changes → AreChangesTo eq m h named number end changes
for_all eq m h named number end changes state root at is below s base s_at s_is =
    let same : state ≡ s = same_place named.states number state s at s_at in
    let both : Some root ≡ Some base = sym is ∙ ap h.base same ∙ s_is in
    let bases : root ≡ base = cc in
    subst (λ t. AreChangesBelow eq h named t (m.steps base) end changes) same (subst (λ b. AreChangesBelow eq h named state (m.steps b) end changes) bases below)

-- what is left past a step, by what was found
module _ {S D : Type 0} (h : Sharing S D) (named : Named S D) (x : Step S) where
  left_broken : (p : Past D) → IsLeftPast h named x p Broken → p ≡ Broken
  left_broken Broken l = refl
  left_broken Same l = (let wrong : ◌≡◌ {A = Past ℕ} Broken Same = l in cc)
  left_broken (More more) l = (let wrong : ◌≡◌ {A = Past ℕ} Broken (More l.0) = l.1 in cc)

  left_same : (p : Past D) → IsLeftPast h named x p Same → p ≡ Same
  left_same Broken l = (let wrong : ◌≡◌ {A = Past ℕ} Same Broken = l in cc)
  left_same Same l = refl
  left_same (More more) l = (let wrong : ◌≡◌ {A = Past ℕ} Same (More l.0) = l.1 in cc)

  left_more : (p : Past D) (number : ℕ) → IsLeftPast h named x p (More number) → (more : D) × (p ≡ More more) × (slice_get named.states number ≡ Some (h.owing x.next more))
  left_more Broken number l = (let wrong : More number ≡ Broken = l in cc)
  left_more Same number l = (let wrong : More number ≡ Same = l in cc)
  left_more (More more) number l = (let both : More number ≡ More l.0 = l.1 in let is : number ≡ l.0 = cc in (more, refl, subst (λ n. slice_get named.states n ≡ Some (h.owing x.next more)) (sym is) l.2))

module _ {S : Type 0} (eq : S → S → Bool) (same : (a b : S) → eq a b ≡ true → a ≡ b) (itself : (a : S) → eq a a ≡ true) {D : Type 0} (m : Behaviour S) (h : Sharing S D) (laws : KeepsLaws m) (keeps : KeepsSharing eq m h)
    (s base : S) (is_base : h.base s ≡ Some base) (named : Named S D) (forms : Forms) (are : AreForms h named (m.steps base) forms) (one : HaveOneNumber named.states)
    (k : ℕ) (changes : List Change) (below : AreChangesBelow eq h named s (m.steps base) k changes) (past : Past ℕ)
    (left : (x : Step S) → slice_get (m.steps base) k ≡ Some x → IsLeftPast h named x (h.past s x.reads x.next) past) where
  pub same_changes : past ≡ Same → AreChangesBelow eq h named s (m.steps base) (k + 1) changes
  same_changes is = without_change eq h named s (m.steps base) k changes below
      (λ x at through. let free = left_same h named x (h.past s x.reads x.next) (subst (IsLeftPast h named x (h.past s x.reads x.next)) is (left x at)) in
      (untouched eq same itself m h laws keeps s base is_base k x at through free, free))

  pub broken_changes : past ≡ Broken → AreChangesBelow eq h named s (m.steps base) (k + 1) (changes ++ record { form = k; next = None } ∷ [])
  broken_changes is = with_change eq h named s (m.steps base) k changes below None
      (λ x at through. broken eq same itself m h laws keeps s base is_base k x through (left_broken h named x (h.past s x.reads x.next) (subst (IsLeftPast h named x (h.past s x.reads x.next)) is (left x at))))

  module _ (number : ℕ) (is : past ≡ More number) where
    more_of : (x : Step S) → slice_get (m.steps base) k ≡ Some x → (more : D) × (h.past s x.reads x.next ≡ More more) × (slice_get named.states number ≡ Some (h.owing x.next more))
    more_of x at = left_more h named x (h.past s x.reads x.next) number (subst (IsLeftPast h named x (h.past s x.reads x.next)) is (left x at))

    pub repeated_changes : IsRepeated named.cells forms k number changes → AreChangesBelow eq h named s (m.steps base) (k + 1) (changes ++ record { form = k; next = None } ∷ [])
    repeated_changes r = with_change eq h named s (m.steps base) k changes below None
        (λ x at through. let l = more_of x at in
        repeated eq same itself m h laws keeps s base is_base k x l.0 at through l.1
        (was_there eq same itself m h laws keeps s base is_base named forms are one k x l.0 at through l.1 number l.2 changes below r))

    pub fresh_changes : (IsRepeated named.cells forms k number changes → ⊥) → AreChangesBelow eq h named s (m.steps base) (k + 1) (changes ++ record { form = k; next = Some number } ∷ [])
    fresh_changes none = with_change eq h named s (m.steps base) k changes below (Some number)
        (λ x at through. let l = more_of x at in (h.owing x.next l.0, l.2, fresh eq same itself m h laws keeps s base is_base k x l.0 at through l.1 (by x at through (any_before eq same itself m h laws keeps s base is_base k (longer eq same itself m h laws keeps s base is_base k x l.0 at through l.1)) refl)))
      where
        by : (x : Step S) (at : slice_get (m.steps base) k ≡ Some x) (through : h.opens s (h.gate x.reads) ≡ true) (b : Bool)
            → any_before eq same itself m h laws keeps s base is_base k (record x { next = h.owing x.next (more_of x at).0 }) ≡ b → any_before eq same itself m h laws keeps s base is_base k (record x { next = h.owing x.next (more_of x at).0 }) ≡ false
        by x at through false e = e
        by x at through true e = absurd (let l = more_of x at in none (is_there eq same itself m h laws keeps s base is_base named forms are one k x l.0 at through l.1 number l.2 changes below e))
