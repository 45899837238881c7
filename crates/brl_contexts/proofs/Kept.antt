-- What was known of states, cells and contexts stays where there are more of them.
use Rattle.std.proofs.Common.{◌≡◌, ◌∙◌, ◌++◌, ◌∷◌, ℕ, Bool, Global, IsFalse, List, [], Option, Some, Vec, ap, cond, false, length, refl, slice_get, subst, sym, true}
use Rattle.brl_contexts.specs.Contexts.{AreContexts, AreEdgesAt, StillKnows, edges_of}
use Rattle.brl_contexts.specs.Forms.{AreForms}
use Rattle.brl_contexts.specs.Named.{AreCarried, IsCarriedTo, StillNames, Stays}
use Rattle.brl_contexts.specs.declared.carried.Carried.{Carried}
use Rattle.brl_contexts.specs.declared.contexts.Contexts.{Contexts}
use Rattle.brl_contexts.specs.declared.contexts.Expanded.{Expanded}
use Rattle.brl_contexts.specs.declared.contexts.Expanded.TheVariants as steps
use Rattle.brl_contexts.specs.declared.forms.Forms.{Forms}
use Rattle.brl_contexts.specs.declared.named.Named.{Named}
use Rattle.brl_pairs.specs.Based.{Sharing}
use Rattle.brl_pairs.specs.Listed.{AreListedEdges}
use Rattle.brl_pairs.specs.Members.{IsMember}
use Rattle.brl_pairs.specs.Runs.{Behaviour}
use Rattle.brl_pairs.specs.declared.edge.ListedEdge.{ListedEdge}
use Rattle.brl_pairs.specs.declared.step.Step.{Step}
use Rattle.brl_pairs.proofs.Lists.{count_push, each_push, push_before}
use Rattle.brl_pairs.proofs.ListedLaws.{still_listed}

-- ---- Numbers

-- a value that isn't a member is added
pub added : {T : Type 0} (old new : List T) (value : T) (b : Bool) → (IsFalse b → IsMember old value) → (IsMember old value → ⊥) → new ≡ cond b (old ++ value ∷ []) old → new ≡ old ++ value ∷ []
added old new value true known none is = is
added old new value false known none is = absurd (none (known refl))

-- one more at the end
pub stays_push : {X : Type 0} (old new : List X) (x : X) → new ≡ old ++ x ∷ [] → Stays old new
stays_push {X} old new x is = subst (λ (l : List X). Stays old l) (sym is) (λ k y at. push_before old x k y at)

pub names_same : {S D : Type 0} (named : Named S D) → StillNames named named
names_same named = record { states = λ k s at. at; cells = λ k own at. at }

pub names_then : {S D : Type 0} (one two three : Named S D) → StillNames one two → StillNames two three → StillNames one three
names_then one two three first second = record {
  states = λ k s at. second.states k s (first.states k s at);
  cells = λ k own at. second.cells k own (first.cells k own at);
}

pub knows_same : {S D : Type 0} (contexts : Contexts S D) → StillKnows contexts contexts
knows_same contexts = record { names = names_same contexts.named; bases = λ k s at. at; forms = λ k own at. at }

pub knows_then : {S D : Type 0} (one two three : Contexts S D) → StillKnows one two → StillKnows two three → StillKnows one three
knows_then one two three first second = record {
  names = names_then one.named two.named three.named first.names second.names;
  bases = λ k s at. second.bases k s (first.bases k s at);
  forms = λ k own at. second.forms k own (first.forms k own at);
}

-- more states and cells, and the same contexts
pub knows_named : {S D : Type 0} (old : Contexts S D) (named : Named S D) → StillNames old.named named → StillKnows old (record { named = named; bases = old.bases; forms = old.forms })
knows_named old named names = record { names = names; bases = λ k s at. at; forms = λ k own at. at }

-- ---- More that is due

module _ {S D : Type 0} (h : Sharing S D) (old new : Named S D) (states : Stays old.states new.states) where
  carried_to : (next : ℕ) (more : D) (number : ℕ) → IsCarriedTo h old next more number → IsCarriedTo h new next more number
  carried_to next more number to = record { state = to.state; at = states next to.state to.at; owing = states number (h.owing to.state more) to.owing }

  -- where states are added
  pub still_carried : new.carried ≡ old.carried → new.owing.items ≡ old.owing.items → AreCarried h old → AreCarried h new
  still_carried carried_are owing_are are = record {
    count = ap length owing_are ∙ are.count ∙ ap length (sym carried_are);
    each = λ place own number at there.
        carried_to own.next own.more number
        (are.each place own number (ap (λ (l : List (Carried D)). slice_get l place) (sym carried_are) ∙ at) (ap (λ (l : List ℕ). slice_get l place) (sym owing_are) ∙ there));
  }

  -- and one that is carried
  pub carried_push : (own : Carried D) (number : ℕ) → new.carried ≡ old.carried ++ own ∷ [] → new.owing.items ≡ old.owing.items ++ number ∷ []
      → IsCarriedTo h new own.next own.more number → AreCarried h old → AreCarried h new
  carried_push own number carried_are owing_are to are = record {
    count = ap length owing_are ∙ count_push old.carried old.owing.items own number are.count ∙ ap length (sym carried_are);
    each = λ place x n at there.
        each_push old.carried old.owing.items own number are.count (λ x n. IsCarriedTo h old x.next x.more n) (λ x n. IsCarriedTo h new x.next x.more n)
        (λ x n. carried_to x.next x.more n) are.each to place x n
        (ap (λ (l : List (Carried D)). slice_get l place) (sym carried_are) ∙ at) (ap (λ (l : List ℕ). slice_get l place) (sym owing_are) ∙ there);
  }

-- ---- Contexts

module _ {S D : Type 0} (m : Behaviour S) (h : Sharing S D) where
  pub forms_kept : (old new : Named S D) → StillNames old new → (listed : List (Step S)) (forms : Forms) → AreForms h old listed forms → AreForms h new listed forms
  forms_kept old new names listed forms are = record {
    edges = still_listed old.states new.states names.states old.cells new.cells names.cells listed forms.edges.items are.edges;
    reads = are.reads;
    order = are.order;
    all = are.all;
    gates = are.gates;
  }

  pub contexts_kept : (old : Contexts S D) (named : Named S D) → StillNames old.named named → AreCarried h named → AreContexts m h old
      → AreContexts m h (record { named = named; bases = old.bases; forms = old.forms })
  contexts_kept old named names carried are = record {
    count = are.count;
    are_carried = carried;
    each = λ number base forms at there. forms_kept old.named named names (m.steps base) forms (are.each number base forms at there);
  }

  -- one base more, with its forms
  pub contexts_push : (old new : Contexts S D) (base : S) (forms : Forms) → StillNames old.named new.named → new.bases ≡ old.bases ++ base ∷ [] → new.forms.items ≡ old.forms.items ++ forms ∷ []
      → AreForms h new.named (m.steps base) forms → AreCarried h new.named → AreContexts m h old → AreContexts m h new
  contexts_push old new base forms names bases_are forms_are own carried are = record {
    are_carried = carried;
    count = ap (λ (l : List Forms). length l) forms_are ∙ count_push old.bases old.forms.items base forms are.count ∙ ap (λ (l : List S). length l) (sym bases_are);
    each = λ number b f at there.
        each_push old.bases old.forms.items base forms are.count
        (λ b f. AreForms h old.named (m.steps b) f) (λ b f. AreForms h new.named (m.steps b) f)
        (λ b f. forms_kept old.named new.named names (m.steps b) f) are.each own number b f
        (ap (λ (l : List S). slice_get l number) (sym bases_are) ∙ at) (ap (λ (l : List Forms). slice_get l number) (sym forms_are) ∙ there);
  }

-- ---- The steps of a state

module _ {S D : Type 0} (m : Behaviour S) where
  pub edges_kept : (old new : Contexts S D) → StillKnows old new → (number : ℕ) (expanded : Expanded) → AreEdgesAt m old number expanded → AreEdgesAt m new number expanded
  edges_kept old new knows number (steps.ByContext own) are =
      let forms = are.within.0 in
      let at : slice_get new.forms.items own.context ≡ Some forms = knows.forms own.context forms are.within.1 in
      record {
        within = (forms, at, are.within.2);
        state = are.state;
        at = knows.names.states number are.state are.at;
        edges = subst (AreListedEdges new.named.states new.named.cells (m.steps are.state)) (ap (λ (o : Option Forms). edges_of o own) (are.within.1 ∙ sym at))
            (still_listed old.named.states new.named.states knows.names.states old.named.cells new.named.cells knows.names.cells (m.steps are.state) (edges_of (slice_get old.forms.items own.context) own) are.edges);
      }
  edges_kept old new knows number (steps.Own edges) are = record {
    within = tt;
    state = are.state;
    at = knows.names.states number are.state are.at;
    edges = still_listed old.named.states new.named.states knows.names.states old.named.cells new.named.cells knows.names.cells (m.steps are.state) edges.items are.edges;
  }

  -- the steps of a state without a base
  pub own_edges : (contexts : Contexts S D) (number : ℕ) (edges : Vec ListedEdge Global) (s : S) → slice_get contexts.named.states number ≡ Some s
      → ((s : S) → slice_get contexts.named.states number ≡ Some s → AreListedEdges contexts.named.states contexts.named.cells (m.steps s) edges.items)
      → AreEdgesAt m contexts number (steps.Own edges)
  own_edges contexts number edges s at are = record { within = tt; state = s; at = at; edges = are s at }
