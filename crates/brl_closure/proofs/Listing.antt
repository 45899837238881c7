-- The steps that a check lists: the first one that leads to no listed state, and the numbers of the
-- parts of a state's steps.
use Rattle.std.proofs.Common.{◌≡◌, ◌⊎◌, ℕ, ◌+◌, ◌<◌, ◌≤◌, List, [], ◌∷◌, ◌++◌, All, length, take, Some, slice_get, get_or, inl, inr, sym, ◌∙◌, ap, subst, arith}
use Rattle.std.specs.Global.{Vec}
use Rattle.std.specs.List.{AllZip}
use Rattle.std.proofs.lemmas.List.{get_or-take}
use Rattle.std.proofs.lemmas.Option.{get_or_from_slice_get, slice_get-get_or, slice_get_within}
use Rattle.brl_pairs.specs.Listed.{AreListedEdges}
use Rattle.brl_pairs.specs.Members.{IsMember}
use Rattle.brl_pairs.specs.declared.edge.ListedEdge.{ListedEdge}
use Rattle.brl_pairs.specs.declared.step.Step.{Step}
use Rattle.brl_pairs.proofs.Along.{along-each}
use Rattle.brl_pairs.proofs.ListedLaws.{still_listed}
use Rattle.brl_pairs.proofs.Lists.{inside, length_push, push_cases}
use Rattle.brl_parts.specs.Parts.{AreKeptParts, IsKept, PartsView, no_parts, or_no_edges}
use Rattle.brl_parts.proofs.Merging.{IsNumberOf}
use Rattle.brl_closure.specs.Listing.{AreNumbersOf, IsFirstMissing}
use Rattle.brl_closure.specs.SearchView.{Stays}

-- the steps before this one have edges, and its next state is missing
pub first_missing : {S : Type 0} (states : List S) (cells : List (List ℕ)) (listed done : List (Step S)) (edges : List ListedEdge) (x : Step S) → done ≡ take (length done) listed → AreListedEdges states cells done edges
    → slice_get listed (length done) ≡ Some x → (rule : ℕ) → (x.rule ≡ rule) × (IsMember states x.next → ⊥) → IsFirstMissing states listed rule
first_missing states cells listed done edges x first h at rule gap = record {
  place = length done;
  step = x;
  at = at;
  has_rule = gap.0;
  missing = gap.1;
  before = λ k y lt y_at.
      let count = h.count in
      let e = inside edges k (omega (arith, lt, count)) in
      let here = slice_get-get_or done k y lt ∙ ap Some (ap (λ l. get_or l k y) first ∙ get_or-take (length done) listed k y lt ∙ get_or_from_slice_get listed k y y y_at) in
      (e.0.next, (h.each k y e.0 here e.1).next);
}

-- ---- Keeping a part

pub kept_with : {S P : Type 0} (steps_of : P → List (Step S)) (states : List S) (was cells : List (List ℕ)) → Stays was cells → (old new : PartsView P) (part : P) (edges : Vec ListedEdge) → AreKeptParts steps_of states was old
    → AreListedEdges states cells (steps_of part) edges.items → ((k : ℕ) (p : P) (own : Vec ListedEdge) → IsKept new k p own → IsKept old k p own ⊎ ((p ≡ part) × (own ≡ edges))) → AreKeptParts steps_of states cells new
kept_with steps_of states was cells stays old new part edges are listed each k p own is = elim (each k p own is) [
  | inl known ↦ still_listed states states (λ n s at. at) was cells stays (steps_of p) own.items (are k p own known)
  | inr here ↦ subst (λ q. AreListedEdges states cells (steps_of q) own.items) (sym here.0) (subst (λ (es : Vec ListedEdge). AreListedEdges states cells (steps_of part) es.items) (sym here.1) listed)
]

pub none_kept : {S P : Type 0} (steps_of : P → List (Step S)) (states : List S) (cells : List (List ℕ)) (parts : PartsView P) → parts ≡ no_parts → AreKeptParts steps_of states cells parts
none_kept steps_of states cells parts none = subst (AreKeptParts steps_of states cells) (sym none) (λ number part edges is. (let there = is.part_at in cc))

pub kept_or_none : {S P : Type 0} (steps_of : P → List (Step S)) (states : List S) (was cells : List (List ℕ)) → cells ≡ was → (old new : PartsView P) → (new ≡ old) ⊎ (new ≡ no_parts) → AreKeptParts steps_of states was old → AreKeptParts steps_of states cells new
kept_or_none steps_of states was cells same old new either are = elim either [
  | inl still ↦ subst (λ own. AreKeptParts steps_of states own new) (sym same) (subst (AreKeptParts steps_of states was) (sym still) are)
  | inr none ↦ none_kept steps_of states cells new none
]

-- ---- The numbers of a state's parts

pub no_numbers : {P : Type 0} (parts : List P) (numbers : List ℕ) → numbers ≡ [] → AreNumbersOf parts [] numbers
no_numbers parts numbers none = record { count = ap length none; each = λ k part number at there. cc }

pub numbers_push : {P : Type 0} (old new : List P) → Stays old new → (listed : List P) (numbers : List ℕ) (part : P) (number : ℕ) → AreNumbersOf old listed numbers → slice_get new number ≡ Some part → AreNumbersOf new (listed ++ part ∷ []) (numbers ++ number ∷ [])
numbers_push old new stays listed numbers part number h at = record {
  count = length_push numbers number ∙ ap (λ (n : ℕ). n + 1) h.count ∙ sym (length_push listed part);
  each = λ k p n p_at n_at. elim (push_cases listed part k p p_at) [
    | inl early ↦ elim (push_cases numbers number k n n_at) [
      | inl known ↦ stays n p (h.each k p n early known)
      | inr last ↦ absurd (let within = slice_get_within listed k p early in let end = last.0 in let many = h.count in omega (arith, within, end, many))
    ]
    | inr late ↦ elim (push_cases numbers number k n n_at) [
      | inl known ↦ absurd (let within = slice_get_within numbers k n known in let end = late.0 in let many = h.count in omega (arith, within, end, many))
      | inr last ↦ subst (λ (z : ℕ). slice_get new z ≡ Some p) last.1 (subst (λ q. slice_get new number ≡ Some q) late.1 at)
    ]
  ];
}

pub numbers_below : {P : Type 0} (parts listed : List P) (numbers : List ℕ) → AreNumbersOf parts listed numbers → All (λ n. n < length parts) numbers
numbers_below parts listed numbers have k d within =
    let count = have.count in
    let p = inside listed k (omega (arith, within, count)) in
    slice_get_within parts (get_or numbers k d) p.0 (have.each k p.0 (get_or numbers k d) p.1 (slice_get-get_or numbers k d within))

-- the number of a kept part is one of it
pub number_is : {S P : Type 0} (steps_of : P → List (Step S)) (states : List S) (cells : List (List ℕ)) (kept : PartsView P) → AreKeptParts steps_of states cells kept → length kept.parts ≤ length kept.edges
    → (p : P) (n : ℕ) → slice_get kept.parts n ≡ Some p → IsNumberOf steps_of states cells kept p n
number_is steps_of states cells kept are all p n at =
    let below = slice_get_within kept.parts n p at in
    let own = inside kept.edges n (omega (arith, below, all)) in
    record { edges = subst (λ (l : List ListedEdge). AreListedEdges states cells (steps_of p) l) (sym (ap or_no_edges own.1)) (are n p own.0 (record { part_at = at; edges_at = own.1 })) }

pub numbers_are : {S P : Type 0} (steps_of : P → List (Step S)) (states : List S) (cells : List (List ℕ)) (kept : PartsView P) (listed : List P) (numbers : List ℕ) → AreNumbersOf kept.parts listed numbers
    → AreKeptParts steps_of states cells kept → length kept.parts ≤ length kept.edges → AllZip (IsNumberOf steps_of states cells kept) listed numbers
numbers_are steps_of states cells kept listed numbers have are all =
    along-each (IsNumberOf steps_of states cells kept) listed numbers have.count (λ k p n p_at n_at. number_is steps_of states cells kept are all p n (have.each k p n p_at n_at))

-- ---- Some of the edges
