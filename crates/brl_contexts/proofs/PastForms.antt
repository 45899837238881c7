-- A form of a state's base.
use Rattle.std.proofs.Common.{◌≡◌, ◌∙◌, ◌<◌, ℕ, List, Some, ap, ap₂, arith, length, refl, slice_get, subst, sym}
use Rattle.std.proofs.lemmas.Option.{slice_get_within}
use Rattle.brl_contexts.specs.Changes.{IsLeftPast, IsShared}
use Rattle.brl_contexts.specs.declared.forms.Forms.{Forms}
use Rattle.brl_contexts.specs.declared.named.Named.{Named}
use Rattle.brl_pairs.specs.Based.{Sharing}
use Rattle.brl_pairs.specs.Listed.{IsByNumbers}
use Rattle.brl_pairs.specs.Runs.{Behaviour}
use Rattle.brl_pairs.specs.declared.based.Past.{Past}
use Rattle.brl_pairs.specs.declared.based.Past.TheVariants.{Broken, Same, More}
use Rattle.brl_pairs.specs.declared.edge.ListedEdge.{ListedEdge}
use Rattle.brl_pairs.specs.declared.step.Step.{Step}
use Rattle.brl_pairs.proofs.Lists.{inside, mapped_at, same_place}

-- the step of the base, and the edge
pub record IsForm {S D : Type 0} (named : Named S D) (steps : List (Step S)) (forms : Forms) (form : ℕ) : Type 0 where
  pub step : Step S
  pub step_at : slice_get steps form ≡ Some step
  pub edge : ListedEdge
  pub edge_at : slice_get forms.edges.items form ≡ Some edge
  pub numbers : IsByNumbers named.states named.cells step edge
  pub reads_at : slice_get forms.reads.items form ≡ Some step.reads

module _ {S D : Type 0} (m : Behaviour S) (h : Sharing S D) (named : Named S D) (number : ℕ) (forms : Forms) (shared : IsShared m h named number forms) where
  pub form_of : (form : ℕ) → form < length forms.edges.items → IsForm named (m.steps shared.base) forms form
  form_of form less =
      let count = shared.are_forms.edges.count in
      let x = inside (m.steps shared.base) form (omega (arith, less, count)) in
      let e = inside forms.edges.items form less in
      record {
        step = x.0;
        step_at = x.1;
        edge = e.0;
        edge_at = e.1;
        numbers = shared.are_forms.edges.each form x.0 e.0 x.1 e.1;
        reads_at = ap (λ l. slice_get l form) shared.are_forms.reads ∙ mapped_at (λ (y : Step S). y.reads) (m.steps shared.base) form x.0 x.1;
      }

  -- it leads to a state
  pub next_within : (form : ℕ) (e : ListedEdge) → slice_get forms.edges.items form ≡ Some e → e.next < length named.states
  next_within form e at =
      let f = form_of form (slice_get_within forms.edges.items form e at) in
      slice_get_within named.states e.next f.step.next (ap (λ (d : ListedEdge). slice_get named.states d.next) (same_place forms.edges.items form e f.edge at f.edge_at) ∙ f.numbers.next)

  -- what a form is, by the values that are read
  module _ (form : ℕ) (f : IsForm named (m.steps shared.base) forms form) where
    pub same_reads : (chars : List ℕ) → slice_get forms.reads.items form ≡ Some chars → chars ≡ f.step.reads
    same_reads chars there = same_place forms.reads.items form chars f.step.reads there f.reads_at

    pub same_next : (e : ListedEdge) (next : S) → slice_get forms.edges.items form ≡ Some e → slice_get named.states e.next ≡ Some next → next ≡ f.step.next
    same_next e next there next_there =
        same_place named.states e.next next f.step.next next_there (ap (λ (d : ListedEdge). slice_get named.states d.next) (same_place forms.edges.items form e f.edge there f.edge_at) ∙ f.numbers.next)

    -- what a state with this number leaves past the step of its base is what is left past the form
    pub left_past : (s base own next : S) (x : Step S) (chars : List ℕ) → s ≡ shared.state → h.base s ≡ Some base → slice_get (m.steps base) form ≡ Some x
        → own ≡ shared.state → chars ≡ f.step.reads → next ≡ f.step.next → (h.past s x.reads x.next ≡ h.past own chars next) × (x.next ≡ next)
    left_past s base own next x chars is based there own_is chars_is next_is =
        let both : Some base ≡ Some shared.base = sym based ∙ ap h.base is ∙ shared.is_base in
        let bases : base ≡ shared.base = cc in
        let step : x ≡ f.step = same_place (m.steps shared.base) form x f.step (ap (λ b. slice_get (m.steps b) form) (sym bases) ∙ there) f.step_at in (
          ap (λ (y : Step S). h.past s y.reads y.next) step ∙ ap₂ (λ (a : S) (l : List ℕ). h.past a l f.step.next) (is ∙ sym own_is) (sym chars_is) ∙ ap (h.past own chars) (sym next_is),
          ap (λ (y : Step S). y.next) step ∙ sym next_is,
        )

-- a result, by what is left
pub broken_past : {S D : Type 0} (h : Sharing S D) (named : Named S D) (x : Step S) (p : Past D) → p ≡ Broken → IsLeftPast h named x p Broken
broken_past h named x p is = subst (λ q. IsLeftPast h named x q Broken) (sym is) refl

pub same_past : {S D : Type 0} (h : Sharing S D) (named : Named S D) (x : Step S) (p : Past D) → p ≡ Same → IsLeftPast h named x p Same
same_past h named x p is = subst (λ q. IsLeftPast h named x q Same) (sym is) refl

pub more_past : {S D : Type 0} (h : Sharing S D) (named : Named S D) (x : Step S) (p : Past D) (more : D) (number : ℕ) → p ≡ More more → slice_get named.states number ≡ Some (h.owing x.next more)
    → IsLeftPast h named x p (More number)
more_past h named x p more number is there = subst (λ q. IsLeftPast h named x q (More number)) (sym is) (number, refl, there)
