-- States are found one by one, with their steps. Where all are found, the rules of edges that lead
-- to live states are those that paths take.
use Rattle.std.proofs.Common.{◌≡◌, ℕ, zero, suc, ◌+◌, ◌<◌, ◌≤◌, Bool, true, false, IsTrue, List, [], ◌∷◌, ◌++◌, length, map, get_or, refl, ap, sym, subst, ◌∙◌, arith, Some, Contains, slice_get, Option, ◌⊎◌, inl, inr, set, append_assoc}
use Rattle.std.proofs.lemmas.List.{length-map}
use Rattle.std.proofs.lemmas.List.Elements.{Contains-append_cases, Contains-append_left, Contains-push, Contains-push_cases}
use Rattle.std.proofs.lemmas.Option.{get_or_from_slice_get, slice_get_read, slice_get_within}
use Rattle.brl_closure.proofs.TwoRuns.{path_of}
use Rattle.brl_closure.specs.Reached.{Reached, start, step}
use Rattle.brl_contexts.proofs.Kept.{edges_kept}
use Rattle.brl_contexts.specs.Contexts.{AreContexts, AreEdgesAt, IsWithin, StillKnows, edges_by, edges_of}
use Rattle.brl_contexts.specs.declared.contexts.Contexts.{Contexts}
use Rattle.brl_contexts.specs.declared.contexts.Expanded.{Expanded}
use Rattle.brl_contexts.specs.declared.contexts.Expanded.TheVariants as steps
use Rattle.brl_contexts.specs.declared.forms.Forms.{Forms}
use Rattle.brl_pairs.specs.Based.{Sharing}
use Rattle.brl_pairs.proofs.Listing.{Contains-in, IsIn, in-Contains}
use Rattle.brl_pairs.proofs.Lists.{inside, length_push, mapped_at, mapped_from, push_before, push_cases, same_place, set_cases}
use Rattle.brl_pairs.proofs.Numbered.{contained, place_of}
use Rattle.brl_pairs.specs.Members.{HaveOneNumber}
use Rattle.brl_pairs.specs.Runs.{Behaviour, IsListed, IsPath, Reaches}
use Rattle.brl_pairs.specs.declared.edge.ListedEdge.{ListedEdge}
use Rattle.brl_pairs.specs.declared.step.Step.{Step}
use Rattle.brl_unused.proofs.Marked.{mark-kept, mark-there}
use Rattle.brl_unused.specs.Exploring.{AddsAtMost, AreFound, AreReached, Enters, HavePassed, IsNothing, MarkSame, MarksAre}
use Rattle.brl_unused.specs.Graph.{AreLive, HasEdge, IsLive, IsWhole, final as live_end, step as live_step}
use Rattle.brl_unused.specs.Marking.{AreMarkedBy, TakesBelow}
use Rattle.brl_unused.specs.Taken.{AreTaken, IsOverLimit, IsTaken}
use Rattle.brl_unused.specs.declared.found.FoundStates.{FoundStates}

-- ---- Lists

pub none_in : {X : Type 0} (xs : List X) → xs ≡ [] → (x : X) → Contains xs x → ⊥
none_in xs is x one = (let size = ap length is in let within = one.1 in omega (arith, within, size))

none_at : {X : Type 0} (xs : List X) → xs ≡ [] → (k : ℕ) (x : X) → slice_get xs k ≡ Some x → ⊥
none_at xs is k x at = (let size = ap length is in let within = slice_get_within xs k x at in omega (arith, within, size))

-- what is at a place is there where more follows
before_more : {X : Type 0} (xs more : List X) (k : ℕ) (x : X) → slice_get xs k ≡ Some x → slice_get (xs ++ more) k ≡ Some x
before_more [] more k x at = cc
before_more (y ∷ xs) more zero x at = at
before_more (y ∷ xs) more (suc k) x at = before_more xs more k x at

-- what is read at a place
pub read_number : (xs : List ℕ) (k place x : ℕ) → place ≡ k → k < length xs → x ≡ get_or xs place x → slice_get xs k ≡ Some x
read_number xs k place x same within is = slice_get_read xs (length xs) k x refl within (subst (λ (n : ℕ). x ≡ get_or xs n x) same is)

-- ---- Marks

-- one more place, which isn't marked
pub same_push : (old marks : List Bool) → MarkSame old marks → MarkSame old (marks ++ false ∷ [])
same_push old marks same number = (
  λ at. push_before marks false number true ((same number).0 at),
  λ at. elim (push_cases marks false number true at) [ inl early ↦ (same number).1 early | inr last ↦ (let wrong = last.1 in cc) ],
)

pub marks_longer : (numbers : List ℕ) (old new : List Bool) → MarkSame old new → MarksAre numbers old → MarksAre numbers new
marks_longer numbers old new same are = record {
  each = λ number. (λ one. (same number).0 ((are.each number).0 one), λ at. (are.each number).1 ((same number).1 at));
  once = are.once;
}

pub marks_none : (numbers : List ℕ) (marks : List Bool) → numbers ≡ [] → marks ≡ [] → MarksAre numbers marks
marks_none numbers marks none no_marks = record {
  each = λ number. (λ one. absurd (none_in numbers none number one), λ at. absurd (none_at marks no_marks number true at));
  once = λ i j number at other. absurd (none_at numbers none i number at);
}

module _ (numbers : List ℕ) (marks : List Bool) (are : MarksAre numbers marks) (number : ℕ) (free : slice_get marks number ≡ Some false) where
  other : (place : ℕ) → slice_get numbers place ≡ Some number → ⊥
  other place at = (let marked = (are.each number).0 (contained numbers place number at) in cc)

  -- one number more is marked
  pub marks_add : MarksAre (numbers ++ number ∷ []) (set marks number true)
  marks_add = record {
    each = λ n. (
      λ one. elim (Contains-push_cases numbers number n one) [
        | inl early ↦ mark-kept marks number n ((are.each n).0 early)
        | inr same ↦ subst (λ (k : ℕ). slice_get (set marks number true) k ≡ Some true) same (mark-there marks number (slice_get_within marks number false free))
      ],
      λ at. elim (set_cases marks number true n true at) [
        | inl k ↦ subst (Contains (numbers ++ number ∷ [])) (sym k.0) (Contains-push numbers number)
        | inr k ↦ Contains-append_left numbers (number ∷ []) n ((are.each n).1 k.1)
      ],
    );
    once = λ i j n at there. elim (push_cases numbers number i n at) [
      | inl early ↦ elim (push_cases numbers number j n there) [
        | inl both ↦ are.once i j n early both
        | inr last ↦ absurd (other i (subst (λ (k : ℕ). slice_get numbers i ≡ Some k) (sym last.1) early))
      ]
      | inr late ↦ elim (push_cases numbers number j n there) [
        | inl first ↦ absurd (other j (subst (λ (k : ℕ). slice_get numbers j ≡ Some k) (sym late.1) first))
        | inr last ↦ late.0 ∙ sym last.0
      ]
    ];
  }

-- ---- Numbers that are added

pub adds_kept : (old : List ℕ) (number : ℕ) (new : List ℕ) → AddsAtMost old number new → (n : ℕ) → Contains old n → Contains new n
adds_kept old number new (inl same) n one = subst (λ (xs : List ℕ). Contains xs n) (sym same) one
adds_kept old number new (inr more) n one = subst (λ (xs : List ℕ). Contains xs n) (sym more) (Contains-append_left old (number ∷ []) n one)

pub adds_by_one : (old : List ℕ) (number : ℕ) (new : List ℕ) → AddsAtMost old number new → length new ≤ length old + 1
adds_by_one old number new (inl same) = (let size = ap length same in omega (arith, size))
adds_by_one old number new (inr more) = (let size = ap length more in omega (arith, size, length_push old number))

pub enters_none : (edges : List ListedEdge) (old : List ℕ) → Enters edges old old
enters_none edges old = record { more = []; adds = sym (append_nothing old); entered = λ number one. absurd (none_in [] refl number one) }
  where
    append_nothing : (xs : List ℕ) → xs ++ [] ≡ xs
    append_nothing [] = refl
    append_nothing (x ∷ xs) = ap (λ (ys : List ℕ). x ∷ ys) (append_nothing xs)

-- the state to which an edge leads is added, if it wasn't there
pub enters_one : (edges : List ListedEdge) (old between new : List ℕ) (e : ListedEdge) → Contains edges e → AddsAtMost between e.next new → Enters edges old between → Enters edges old new
enters_one edges old between new e one (inl same) enters = record { more = enters.more; adds = same ∙ enters.adds; entered = enters.entered }
enters_one edges old between new e one (inr more) enters = record {
  more = enters.more ++ e.next ∷ [];
  adds = more ∙ ap (λ (xs : List ℕ). xs ++ e.next ∷ []) enters.adds ∙ append_assoc old enters.more (e.next ∷ []);
  entered = λ number h. elim (Contains-push_cases enters.more e.next number h) [
    | inl early ↦ enters.entered number early
    | inr last ↦ (e, one, last)
  ];
}

-- ---- Edges and steps

-- the edge is a step of the state with this number
record IsStepOf {S : Type 0} (m : Behaviour S) (states : List S) (number : ℕ) (e : ListedEdge) : Type 0 where
  state : S
  at : slice_get states number ≡ Some state
  taken : Step S
  listed : IsListed (m.steps state) taken
  of_rule : taken.rule ≡ e.rule
  enters : slice_get states e.next ≡ Some taken.next

-- the step is an edge of the state at this place
record HasStep {S D : Type 0} (f : FoundStates S D) (place : ℕ) (x : Step S) : Type 0 where
  edge : ListedEdge
  has : HasEdge f place edge
  of_rule : edge.rule ≡ x.rule
  enters : slice_get f.contexts.named.states edge.next ≡ Some x.next

-- each state that is found is known
pub found_known : {S : Type 0} (m : Behaviour S) (states : List S) (order : List ℕ) → AreReached m states order → (number : ℕ) → Contains order number → number < length states
found_known m states order reached number one = (let r = reached number one in slice_get_within states number r.0 r.1)

module _ {S D : Type 0} (m : Behaviour S) where
  step_of : (contexts : Contexts S D) (number : ℕ) (own : Expanded) → AreEdgesAt m contexts number own → (e : ListedEdge) → Contains (edges_by contexts own) e → IsStepOf m contexts.named.states number e
  step_of contexts number own are e one =
      let edges = edges_by contexts own in
      let place = place_of edges e one in
      let x = inside (m.steps are.state) place.0 (let within = slice_get_within edges place.0 e place.1 in let size = are.edges.count in omega (arith, within, size)) in
      let by = are.edges.each place.0 x.0 e x.1 place.1 in
      record { state = are.state; at = are.at; taken = x.0; listed = (place.0, x.1); of_rule = sym by.rule; enters = by.next }

  has_step : (f : FoundStates S D) (place number : ℕ) (own : Expanded) → slice_get f.expanded.items place ≡ Some own → AreEdgesAt m f.contexts number own
      → (s : S) (x : Step S) → slice_get f.contexts.named.states number ≡ Some s → IsListed (m.steps s) x → HasStep f place x
  has_step f place number own at are s x s_at listed =
      let edges = edges_by f.contexts own in
      let same : s ≡ are.state = same_place f.contexts.named.states number s are.state s_at are.at in
      let x_at : slice_get (m.steps are.state) listed.0 ≡ Some x = subst (λ (r : S). slice_get (m.steps r) listed.0 ≡ Some x) same listed.1 in
      let e = inside edges listed.0 (let within = slice_get_within (m.steps are.state) listed.0 x x_at in let size = are.edges.count in omega (arith, within, size)) in
      let by = are.edges.each listed.0 x e.0 x_at e.1 in
      record { edge = e.0; has = record { own = own; at = at; one = contained edges listed.0 e.0 e.1 }; of_rule = by.rule; enters = by.next }

  -- the state to which an edge leads is known
  pub next_known : (contexts : Contexts S D) (number : ℕ) (own : Expanded) → AreEdgesAt m contexts number own → (e : ListedEdge) → Contains (edges_by contexts own) e → e.next < length contexts.named.states
  next_known contexts number own are e one = (let x = step_of contexts number own are e one in slice_get_within contexts.named.states e.next x.taken.next x.enters)

-- the edges stay where more is known
edges_same : {S D : Type 0} (old new : Contexts S D) → StillKnows old new → (own : Expanded) → IsWithin old own → edges_by old own ≡ edges_by new own
edges_same old new knows (steps.ByContext own) within = ap (λ (o : Option Forms). edges_of o own) (within.1 ∙ sym (knows.forms own.context within.0 within.1))
edges_same old new knows (steps.Own edges) within = refl

-- ---- The start

module _ {S D : Type 0} (m : Behaviour S) (h : Sharing S D) where
  -- only the start is found
  pub found_first : (old f : FoundStates S D) (number : ℕ) → IsNothing old → f.contexts.bases ≡ old.contexts.bases → f.contexts.forms.items ≡ old.contexts.forms.items
      → f.contexts.named.carried ≡ old.contexts.named.carried → f.contexts.named.owing ≡ old.contexts.named.owing → f.expanded.items ≡ old.expanded.items
      → slice_get f.contexts.named.states number ≡ Some m.start → AddsAtMost old.order.items number f.order.items → Contains f.order.items number → MarksAre f.order.items f.marks.items → AreFound m h f
  found_first old f number nothing bases forms carried owing expanded at adds one marks = record {
    contexts = record {
      are_carried = record {
        count = ap length (ap (λ v. v.items) owing ∙ nothing.contexts.owing) ∙ sym (ap length (carried ∙ nothing.contexts.carried));
        each = λ k own number own_at there. absurd (none_at f.contexts.named.carried (carried ∙ nothing.contexts.carried) k own own_at);
      };
      count = ap length (forms ∙ nothing.contexts.forms) ∙ sym (ap length (bases ∙ nothing.contexts.bases));
      each = λ k base own base_at own_at. absurd (none_at f.contexts.bases (bases ∙ nothing.contexts.bases) k base base_at);
    };
    marks = marks;
    reached = λ n there. (m.start, subst (λ (k : ℕ). slice_get f.contexts.named.states k ≡ Some m.start) (only adds n there) at, start);
    start = (number, one, at);
    few = (let size = ap length none in omega (arith, size));
    edges = λ place n own n_at own_at. absurd (none_at f.expanded.items none place own own_at);
    entered = λ place e has. absurd (none_at f.expanded.items none place has.own has.at);
  }
    where
      none : f.expanded.items ≡ []
      none = expanded ∙ nothing.expanded

      only : AddsAtMost old.order.items number f.order.items → (n : ℕ) → Contains f.order.items n → number ≡ n
      only (inl same) n there = absurd (none_in f.order.items (same ∙ nothing.order) n there)
      only (inr more) n there = elim (Contains-push_cases old.order.items number n (subst (λ (xs : List ℕ). Contains xs n) more there)) [
        | inl early ↦ absurd (none_in old.order.items nothing.order n early)
        | inr same ↦ same
      ]

pub one_first : (old : List ℕ) (number : ℕ) (new : List ℕ) → old ≡ [] → AddsAtMost old number new → Contains new number → length new ≡ 1
one_first old number new none (inl same) one = absurd (none_in new (same ∙ none) number one)
one_first old number new none (inr more) one = (let size = ap length more in let nothing = ap length none in omega (arith, size, nothing, length_push old number))

-- the start alone is more than the limit allows
pub passed_first : {S D : Type 0} (m : Behaviour S) (h : Sharing S D) (limit : ℕ) (f : FoundStates S D) → AreFound m h f → length f.order.items ≡ 1 → limit < length f.order.items → HavePassed m limit f
passed_first m h limit f found one more = record { passed = more; by_one = omega (arith, one); reached = found.reached; once = found.marks.once }

-- ---- One more state is expanded

module _ {S D : Type 0} (m : Behaviour S) (h : Sharing S D) (f g : FoundStates S D) (found : AreFound m h f) (knows : StillKnows f.contexts g.contexts) (number : ℕ) (own : Expanded)
    (at : slice_get f.order.items (length f.expanded.items) ≡ Some number) (are : AreEdgesAt m g.contexts number own) (enters : Enters (edges_by g.contexts own) f.order.items g.order.items) where
  kept_at : (place n : ℕ) → slice_get f.order.items place ≡ Some n → slice_get g.order.items place ≡ Some n
  kept_at place n n_at = subst (λ (xs : List ℕ). slice_get xs place ≡ Some n) (sym enters.adds) (before_more f.order.items enters.more place n n_at)

  pub reached_next : AreReached m g.contexts.named.states g.order.items
  reached_next n there = elim (Contains-append_cases f.order.items enters.more n (subst (λ (xs : List ℕ). Contains xs n) enters.adds there)) [
    | inl early ↦ (let r = found.reached n early in (r.0, knows.names.states n r.0 r.1, r.2))
    | inr late ↦
        let e = enters.entered n late in
        let x = step_of m g.contexts number own are e.0 e.1 in
        let r = found.reached number (contained f.order.items (length f.expanded.items) number at) in
        let same : r.0 ≡ x.state = same_place g.contexts.named.states number r.0 x.state (knows.names.states number r.0 r.1) x.at in
        (x.taken.next, subst (λ (k : ℕ). slice_get g.contexts.named.states k ≡ Some x.taken.next) e.2 x.enters, step (subst (Reached m) same r.2) x.listed)
  ]

  -- more than the limit allows
  pub passed_next : (limit : ℕ) → MarksAre g.order.items g.marks.items → limit < length g.order.items → length g.order.items ≤ limit + 1 → HavePassed m limit g
  passed_next limit marks passed by_one = record { passed = passed; by_one = by_one; reached = reached_next; once = marks.once }

  module _ (contexts : AreContexts m h g.contexts) (marks : MarksAre g.order.items g.marks.items) (grown : g.expanded.items ≡ f.expanded.items ++ own ∷ [])
      (all : (e : ListedEdge) → Contains (edges_by g.contexts own) e → Contains g.order.items e.next) where
    still_there : (n : ℕ) → Contains f.order.items n → Contains g.order.items n
    still_there n one = subst (λ (xs : List ℕ). Contains xs n) (sym enters.adds) (Contains-append_left f.order.items enters.more n one)

    -- what is expanded was, or is the next state
    which : (place : ℕ) (o : Expanded) → slice_get g.expanded.items place ≡ Some o → (slice_get f.expanded.items place ≡ Some o) ⊎ ((place ≡ length f.expanded.items) × (own ≡ o))
    which place o o_at = push_cases f.expanded.items own place o (subst (λ (xs : List Expanded). slice_get xs place ≡ Some o) grown o_at)

    -- the state whose steps were known
    old_at : (place : ℕ) (o : Expanded) → slice_get f.expanded.items place ≡ Some o → (n : ℕ) × (slice_get f.order.items place ≡ Some n)
    old_at place o o_at = inside f.order.items place (let within = slice_get_within f.expanded.items place o o_at in let few = found.few in omega (arith, within, few))

    edges_next : (place n : ℕ) (o : Expanded) → slice_get g.order.items place ≡ Some n → slice_get g.expanded.items place ≡ Some o → AreEdgesAt m g.contexts n o
    edges_next place n o n_at o_at = elim (which place o o_at) [
      | inl early ↦
          let old = old_at place o early in
          let same : old.0 ≡ n = same_place g.order.items place old.0 n (kept_at place old.0 old.1) n_at in
          edges_kept m f.contexts g.contexts knows n o (found.edges place n o (subst (λ (k : ℕ). slice_get f.order.items place ≡ Some k) same old.1) early)
      | inr last ↦
          let same : number ≡ n = same_place g.order.items place number n (subst (λ (k : ℕ). slice_get g.order.items k ≡ Some number) (sym last.0) (kept_at (length f.expanded.items) number at)) n_at in
          subst (AreEdgesAt m g.contexts n) last.1 (subst (λ (k : ℕ). AreEdgesAt m g.contexts k own) same are)
    ]

    entered_next : (place : ℕ) (e : ListedEdge) → HasEdge g place e → Contains g.order.items e.next
    entered_next place e has = elim (which place has.own has.at) [
      | inl early ↦
          let old = old_at place has.own early in
          let same = edges_same f.contexts g.contexts knows has.own (found.edges place old.0 has.own old.1 early).within in
          still_there e.next (found.entered place e (record { own = has.own; at = early; one = subst (λ (xs : List ListedEdge). Contains xs e) (sym same) has.one }))
      | inr last ↦ all e (subst (λ (o : Expanded). Contains (edges_by g.contexts o) e) (sym last.1) has.one)
    ]

    pub found_next : AreFound m h g
    found_next = record {
      contexts = contexts;
      marks = marks;
      reached = reached_next;
      start = (found.start.0, still_there found.start.0 found.start.1, knows.names.states found.start.0 m.start found.start.2);
      few = (let size = ap length grown in let within = slice_get_within f.order.items (length f.expanded.items) number at in
          let there = slice_get_within g.order.items (length f.expanded.items) number (kept_at (length f.expanded.items) number at) in omega (arith, size, there, length_push f.expanded.items own));
      edges = edges_next;
      entered = entered_next;
    }

-- ---- The limit

pub over_limit : {S D : Type 0} (m : Behaviour S) (limit : ℕ) (f : FoundStates S D) → HavePassed m limit f → HaveOneNumber f.contexts.named.states → IsOverLimit m limit (length f.order.items)
over_limit {S} m limit f h one = record {
  passed = h.passed;
  by_one = h.by_one;
  reached = record {
    list = map state f.order.items;
    count = length-map f.order.items state;
    each = λ i s at. (let n = mapped_from state f.order.items i s at in let r = reached_at i n.0 n.1 in subst (Reached m) (sym (known n.0 r.0 r.1) ∙ n.2) r.2);
    differ = λ i j a b less a_at b_at same.
        (let n = mapped_from state f.order.items i a a_at in
        let k = mapped_from state f.order.items j b b_at in
        let r = reached_at i n.0 n.1 in
        let t = reached_at j k.0 k.1 in
        let equal : t.0 ≡ r.0 = sym (known k.0 t.0 t.1) ∙ k.2 ∙ sym same ∙ sym n.2 ∙ known n.0 r.0 r.1 in
        let number : n.0 ≡ k.0 = one n.0 k.0 r.0 r.1 (subst (λ (s : S). slice_get states k.0 ≡ Some s) equal t.1) in
        let place = h.once i j k.0 (subst (λ (x : ℕ). slice_get f.order.items i ≡ Some x) number n.1) k.1 in
        omega (arith, less, place));
  };
}
  where
    states : List S
    states = f.contexts.named.states

    state : ℕ → S
    state n = get_or states n m.start

    reached_at : (i n : ℕ) → slice_get f.order.items i ≡ Some n → (s : S) × (slice_get states n ≡ Some s) × Reached m s
    reached_at i n at = h.reached n (contained f.order.items i n at)

    known : (n : ℕ) (s : S) → slice_get states n ≡ Some s → state n ≡ s
    known n s at = get_or_from_slice_get states n s m.start at

-- ---- All is found

module _ {S D : Type 0} (m : Behaviour S) (h : Sharing S D) (f : FoundStates S D) (found : AreFound m h f) (all : length f.expanded.items ≡ length f.order.items) where
  known_next : (number : ℕ) → Contains f.order.items number → number < length f.contexts.named.states
  known_next = found_known m f.contexts.named.states f.order.items found.reached

  pub whole : IsWhole f
  whole = record {
    count = all;
    known = known_next;
    within = λ place own at. (let n = inside f.order.items place (let below = slice_get_within f.expanded.items place own at in omega (arith, below, all)) in (found.edges place n.0 own n.1 at).within);
    nexts = λ place e has. known_next e.next (found.entered place e has);
  }

  -- a state that is found has a place, and its steps are known there
  record IsHere (number : ℕ) : Type 0 where
    place : ℕ
    at : slice_get f.order.items place ≡ Some number
    own : Expanded
    own_at : slice_get f.expanded.items place ≡ Some own

  here : (number : ℕ) → Contains f.order.items number → IsHere number
  here number one =
      let at = place_of f.order.items number one in
      let own = inside f.expanded.items at.0 (let below = slice_get_within f.order.items at.0 number at.1 in omega (arith, below, all)) in
      record { place = at.0; at = at.1; own = own.0; own_at = own.1 }

  steps_here : (number : ℕ) (p : IsHere number) (s : S) (x : Step S) → slice_get f.contexts.named.states number ≡ Some s → IsListed (m.steps s) x → HasStep f p.place x
  steps_here number p s x at listed = has_step m f p.place number p.own p.own_at (found.edges p.place number p.own p.at p.own_at) s x at listed

  -- from a live state a path leads to a final one
  path_from : (n : ℕ) (s : S) → IsLive (map m.ends f.contexts.named.states) f n → slice_get f.contexts.named.states n ≡ Some s → (path : List (Step S)) × IsPath m s path
  path_from n s (live_end h) at = (let e = mapped_at m.ends f.contexts.named.states n s at in ([], is_true (m.ends s) e h))
    where
      is_true : (b : Bool) → slice_get (map m.ends f.contexts.named.states) n ≡ Some b → slice_get (map m.ends f.contexts.named.states) n ≡ Some true → IsTrue b
      is_true b here there = cc
  path_from n s (live_step {place} {number} {e} there has on) at =
      let x = step_of m f.contexts n has.own (found.edges place n has.own there has.at) e has.one in
      let same : x.state ≡ s = same_place f.contexts.named.states n x.state s x.at at in
      let rest = path_from e.next x.taken.next on x.enters in
      (x.taken ∷ rest.0, (subst (λ (r : S). IsListed (m.steps r) x.taken) same x.listed, rest.1))

  -- a path to a final state begins in a live one
  live_at : (n : ℕ) (s : S) (path : List (Step S)) → Contains f.order.items n → IsPath m s path → slice_get f.contexts.named.states n ≡ Some s → IsLive (map m.ends f.contexts.named.states) f n
  live_at n s [] one ends at = live_end (mapped_at m.ends f.contexts.named.states n s at ∙ ap Some ends)
  live_at n s (x ∷ path) one is at =
      let p = here n one in
      let y = steps_here n p s x at is.0 in
      live_step p.at y.has (live_at y.edge.next x.next path (found.entered p.place y.edge y.has) is.1 y.enters)

  module _ (marks : List Bool) (are : AreLive (map m.ends f.contexts.named.states) f marks) where
    takes : (n : ℕ) (s : S) (path : List (Step S)) → Contains f.order.items n → IsPath m s path → slice_get f.contexts.named.states n ≡ Some s → (x : Step S) → IsIn x path
        → TakesBelow f marks (length f.expanded.items) x.rule
    takes n s [] one is at x h = absurd h
    takes n s (y ∷ path) one is at x (inl e) =
        let p = here n one in
        let z = steps_here n p s y at is.0 in
        record {
          place = p.place;
          low = slice_get_within f.expanded.items p.place p.own p.own_at;
          edge = z.edge;
          has = z.has;
          of_rule = z.of_rule ∙ ap (λ (w : Step S). w.rule) (sym e);
          is_live = (are.each z.edge.next).1 (live_at z.edge.next y.next path (found.entered p.place z.edge z.has) is.1 z.enters);
        }
    takes n s (y ∷ path) one is at x (inr more) =
        let p = here n one in
        let z = steps_here n p s y at is.0 in
        takes z.edge.next y.next path (found.entered p.place z.edge z.has) is.1 z.enters x more

    -- steps to a state, one more, and a path from there
    joined : (s r : S) (before : List (Step S)) (x : Step S) (after : List (Step S)) → Reaches m s before r → IsListed (m.steps r) x → IsPath m x.next after → IsPath m s (before ++ x ∷ after)
    joined s r [] x after to listed rest = (subst (λ (z : S). IsListed (m.steps z) x) (sym to) listed, rest)
    joined s r (y ∷ before) x after to listed rest = (to.0, joined y.next r before x after to.1 listed rest)

    in_middle : (before : List (Step S)) (x : Step S) (after : List (Step S)) → IsIn x (before ++ x ∷ after)
    in_middle [] x after = inl refl
    in_middle (y ∷ before) x after = inr (in_middle before x after)

    taken : (rule : ℕ) → TakesBelow f marks (length f.expanded.items) rule → IsTaken m rule
    taken rule t =
        let n = inside f.order.items t.place (let low = t.low in omega (arith, low, all)) in
        let x = step_of m f.contexts n.0 t.has.own (found.edges t.place n.0 t.has.own n.1 t.has.at) t.edge t.has.one in
        let r = found.reached n.0 (contained f.order.items t.place n.0 n.1) in
        let same : r.0 ≡ x.state = same_place f.contexts.named.states n.0 r.0 x.state r.1 x.at in
        let before = path_of m (subst (Reached m) same r.2) in
        let after = path_from t.edge.next x.taken.next ((are.each t.edge.next).0 t.is_live) x.enters in
        record {
          path = before.0 ++ x.taken ∷ after.0;
          is_path = joined m.start x.state before.0 x.taken after.0 before.1 x.listed after.1;
          step = x.taken;
          one = in-Contains x.taken (before.0 ++ x.taken ∷ after.0) (in_middle before.0 x.taken after.0);
          of_rule = x.of_rule ∙ t.of_rule;
        }

    pub marked_taken : (rules : ℕ) (marked : List Bool) → AreMarkedBy f marks (length f.expanded.items) rules marked → AreTaken m rules marked
    marked_taken rules marked by = record {
      count = by.count;
      taken = λ rule at. taken rule ((by.each rule (low rule true at)).0 at);
      others = λ rule at is. apart rule at ((by.each rule (low rule false at)).1
          (subst (TakesBelow f marks (length f.expanded.items)) is.of_rule (takes found.start.0 m.start is.path found.start.1 is.is_path found.start.2 is.step (Contains-in is.step is.path is.one))));
    }
      where
        low : (rule : ℕ) (b : Bool) → slice_get marked rule ≡ Some b → rule < rules
        low rule b at = (let size = by.count in let inside_it = slice_get_within marked rule b at in omega (arith, inside_it, size))

        apart : (rule : ℕ) → slice_get marked rule ≡ Some false → slice_get marked rule ≡ Some true → ⊥
        apart rule missing marked_one = cc
