use Rattle.std.proofs.Common.{◌≡◌, ◌∙◌, ◌<◌, ℕ, List, [], Some, ap, arith, get_or, length, refl, slice_get, subst, sym}
use Rattle.std.proofs.lemmas.Option.{get_or_from_slice_get, slice_get_within}
use Rattle.brl_contexts.specs.Changes.{IsShared}
use Rattle.brl_contexts.specs.declared.forms.Forms.{Forms}
use Rattle.brl_contexts.specs.declared.named.Named.{Named}
use Rattle.brl_contexts.proofs.PastForms.{broken_past, form_of, left_past, more_past, next_within, same_next, same_past, same_reads}
use Rattle.brl_contexts.proofs.changes.past_form.Goals as goal
use Rattle.brl_pairs.specs.Based.{Sharing, meeting}
use Rattle.brl_pairs.specs.Order.{at}
use Rattle.brl_pairs.specs.Runs.{Behaviour}
use Rattle.brl_pairs.specs.declared.edge.ListedEdge.{ListedEdge}
use Rattle.brl_pairs.specs.declared.step.Step.{Step}
use Rattle.brl_pairs.proofs.Lists.{read_at, same_place}

-- what is read for a form
module _ {S D : Type 0} (m : Behaviour S) (h : Sharing S D) (named : Named S D) (number : ℕ) (forms : Forms) (shared : IsShared m h named number forms)
    (form : ℕ) (within : form < length forms.edges.items) (e : ListedEdge) (e_is : e ≡ get_or forms.edges.items form e) where
  edge_at : slice_get forms.edges.items form ≡ Some e
  edge_at = read_at forms.edges.items forms.edges.items form e refl within e_is

  next_less : (others : List S) → others ≡ named.states → e.next < length others
  next_less others are = subst (λ (l : List S). e.next < length l) (sym are) (next_within m h named number forms shared form e edge_at)

  next_there : (others : List S) → others ≡ named.states → (next : S) → next ≡ get_or others e.next next → slice_get named.states e.next ≡ Some next
  next_there others are next next_is = read_at others named.states e.next next are (next_less others are) next_is

  module _ (states : List S) (are : states ≡ named.states) (own : S) (own_is : own ≡ get_or states number own) (chars : List ℕ) (chars_is : chars ≡ get_or forms.reads.items form chars) where
    own_at : slice_get named.states number ≡ Some own
    own_at = read_at states named.states number own are (subst (λ (l : List S). number < length l) (sym are) (slice_get_within named.states number shared.state shared.at)) own_is

    chars_at : slice_get forms.reads.items form ≡ Some chars
    chars_at =
        (let f = form_of m h named number forms shared form within in
        read_at forms.reads.items forms.reads.items form chars refl (slice_get_within forms.reads.items form f.step.reads f.reads_at) chars_is)

    met_by : (bars : List ℕ) → ((s : S) → slice_get named.states number ≡ Some s → bars ≡ meeting (h.bars s) (at forms.reads.items form)) → bars ≡ meeting (h.bars own) chars
    met_by bars met = met own own_at ∙ ap (meeting (h.bars own)) (get_or_from_slice_get forms.reads.items form chars [] chars_at)

    by_values : (others : List S) → others ≡ named.states → (next : S) → next ≡ get_or others e.next next → (s base : S) (x : Step S) → s ≡ shared.state → h.base s ≡ Some base
        → slice_get (m.steps base) form ≡ Some x → (h.past s x.reads x.next ≡ h.past own chars next) × (x.next ≡ next)
    by_values others others_are next next_is s base x is based there =
        let f = form_of m h named number forms shared form within in
        left_past m h named number forms shared form f s base own next x chars is based there (same_place named.states number own shared.state own_at shared.at)
        (same_reads m h named number forms shared form f chars chars_at)
        (same_next m h named number forms shared form f e next edge_at (next_there others others_are next next_is))

pub bounds-as_slice-target : goal.bounds-as_slice-target
bounds-as_slice-target g c =
    next_less (g.B.Machine.behaviour c.args.machine.now) (g.B.Based.sharing c.args.machine.now) c.args.named.now c.args.state c.args.forms.now c.requires.shared c.args.form c.requires.within
    c.index.result.now c.index.ensures c.as_slice-2.result.now c.as_slice-2.ensures.members

pub offset_bounds-as_slice-target : goal.offset_bounds-as_slice-target
offset_bounds-as_slice-target g c =
    (let less = next_less (g.B.Machine.behaviour c.args.machine.now) (g.B.Based.sharing c.args.machine.now) c.args.named.now c.args.state c.args.forms.now c.requires.shared c.args.form c.requires.within
    c.index.result.now c.index.ensures c.as_slice-2.result.now c.as_slice-2.ensures.members in omega (arith, less))

pub past-requires : goal.past-requires
past-requires g c =
    met_by (g.B.Machine.behaviour c.args.machine.now) (g.B.Based.sharing c.args.machine.now) c.args.named.now c.args.state c.args.forms.now c.requires.shared c.args.form c.requires.within
    c.index.result.now c.index.ensures c.as_slice.result.now c.as_slice.ensures.members c.index-as_slice-state.result c.index-as_slice-state.is c.index-2.result.now c.index-2.ensures c.args.bars.now c.requires.met

pub returns-in-Broken-clause-past : goal.returns-in-Broken-clause-past
returns-in-Broken-clause-past g c s base x at based there =
    let h = g.B.Based.sharing c.args.machine.now in
    let named = c.args.named.now in
    let left = by_values (g.B.Machine.behaviour c.args.machine.now) h named c.args.state c.args.forms.now c.requires.shared c.args.form c.requires.within
    c.index.result.now c.index.ensures c.as_slice.result.now c.as_slice.ensures.members c.index-as_slice-state.result c.index-as_slice-state.is c.index-2.result.now c.index-2.ensures
    c.as_slice-2.result.now c.as_slice-2.ensures.members c.index-as_slice-target.result c.index-as_slice-target.is s base x (same_place named.states c.args.state s c.requires.shared.state at c.requires.shared.at) based there in
    broken_past h named x (h.past s x.reads x.next) (left.0 ∙ sym c.in_ok-past.ensures ∙ c.in-Broken.is)

pub returns-in-Same-clause-past : goal.returns-in-Same-clause-past
returns-in-Same-clause-past g c s base x at based there =
    let h = g.B.Based.sharing c.args.machine.now in
    let named = c.args.named.now in
    let left = by_values (g.B.Machine.behaviour c.args.machine.now) h named c.args.state c.args.forms.now c.requires.shared c.args.form c.requires.within
    c.index.result.now c.index.ensures c.as_slice.result.now c.as_slice.ensures.members c.index-as_slice-state.result c.index-as_slice-state.is c.index-2.result.now c.index-2.ensures
    c.as_slice-2.result.now c.as_slice-2.ensures.members c.index-as_slice-target.result c.index-as_slice-target.is s base x (same_place named.states c.args.state s c.requires.shared.state at c.requires.shared.at) based there in
    same_past h named x (h.past s x.reads x.next) (left.0 ∙ sym c.in_ok-past.ensures ∙ c.in-Same.is)

pub returns-clause-past : goal.returns-clause-past
returns-clause-past g c s base x at based there =
    let h = g.B.Based.sharing c.args.machine.now in
    let named = c.args.named.now in
    let new = c.number_owing.new.named in
    let shared = c.requires.shared in
    let names = c.in_ok-number.ensures.names in
    let to = c.in_ok-number.ensures.number in
    let is = same_place new.states c.args.state s shared.state at (names.states c.args.state shared.state shared.at) in
    let next_at = next_there (g.B.Machine.behaviour c.args.machine.now) h named c.args.state c.args.forms.now shared c.args.form c.requires.within
    c.index.result.now c.index.ensures c.as_slice-2.result.now c.as_slice-2.ensures.members c.index-as_slice-target.result c.index-as_slice-target.is in
    let left = by_values (g.B.Machine.behaviour c.args.machine.now) h named c.args.state c.args.forms.now shared c.args.form c.requires.within
    c.index.result.now c.index.ensures c.as_slice.result.now c.as_slice.ensures.members c.index-as_slice-state.result c.index-as_slice-state.is c.index-2.result.now c.index-2.ensures
    c.as_slice-2.result.now c.as_slice-2.ensures.members c.index-as_slice-target.result c.index-as_slice-target.is s base x is based there in
    let state : to.state ≡ x.next = same_place new.states c.index.result.now.next to.state _ to.at (names.states c.index.result.now.next _ next_at) ∙ sym left.1 in
    more_past h new x (h.past s x.reads x.next) c.in-More.more c.in_ok-number.number (left.0 ∙ sym c.in_ok-past.ensures ∙ c.in-More.is)
    (to.owing ∙ ap (λ (t : g.row.B-State.Denot). Some (h.owing t c.in-More.more)) state)

pub number_owing-requires-clause-next : goal.number_owing-requires-clause-next
number_owing-requires-clause-next g c =
    next_less (g.B.Machine.behaviour c.args.machine.now) (g.B.Based.sharing c.args.machine.now) c.args.named.now c.args.state c.args.forms.now c.requires.shared c.args.form c.requires.within
    c.index.result.now c.index.ensures c.args.named.now.states refl
