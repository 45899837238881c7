-- Pairs that are looked up, and what follows where they aren't there.
use Rattle.std.proofs.Common.{◌≡◌, ◌≢◌, ℕ, Bool, false, List, [], ◌∷◌, ◌++◌, inl, inr, Some, slice_get, sym, ◌∙◌, ap, subst, if◌then◌else◌}
use Rattle.std.proofs.lemmas.List.{append_cancel_left}
use Rattle.brl_pairs.specs.Body.{NumberPair}
use Rattle.brl_pairs.specs.declared.edge.Edge.{Edge}
use Rattle.brl_pairs.specs.NumberPairs.{IsThere, IsFollowed}
use Rattle.brl_pairs.specs.Members.{IsMember}
use Rattle.brl_pairs.specs.Pairs.{swapped}
use Rattle.brl_closure.specs.SearchView.{Stays}
use Rattle.brl_closure.specs.Trail.{DifferAsPairs}
use Rattle.brl_closure.proofs.Growing.{inserted}
use Rattle.brl_pairs.proofs.Missing.{none_left}

-- the pair by its parts
parts : (p : NumberPair) (a b : ℕ) (l : List ℕ) → p.ahead ≡ a → p.behind ≡ b → p.lead ≡ l → p ≡ record { ahead = a; behind = b; lead = l }
parts p a b l ahead behind lead = λ i. record { ahead = ahead i; behind = behind i; lead = lead i }

-- a pair that isn't there in either order differs from those that are
pub absent_differ : (pairs : List NumberPair) (p : NumberPair) → (IsThere pairs p.ahead p.behind p.lead → ⊥) → (n : ℕ) (q : NumberPair) → slice_get pairs n ≡ Some q → DifferAsPairs q p
absent_differ pairs p absent n q at = record {
  in_this_order = λ same. absent (inl (n, at ∙ ap (λ (z : NumberPair). Some z) same));
  in_other_order = λ no_lead swapped.
      (let ahead : q.behind ≡ p.ahead = ap (λ (z : NumberPair). z.ahead) swapped in
      let behind : q.ahead ≡ p.behind = ap (λ (z : NumberPair). z.behind) swapped in
      let lead : q.lead ≡ p.lead = ap (λ (z : NumberPair). z.lead) swapped in
      absent (inr (sym lead ∙ no_lead, (n, at ∙ ap (λ (z : NumberPair). Some z) (parts q p.behind p.ahead p.lead behind ahead lead)))));
}

-- a pair that isn't there is added at the end
pub pair_inserted : (pairs new : List NumberPair) (p : NumberPair) (added : Bool) → (IsThere pairs p.ahead p.behind p.lead → ⊥) → (added ≡ false → IsMember pairs p) → new ≡ (if added then pairs ++ p ∷ [] else pairs) → new ≡ pairs ++ p ∷ []
pair_inserted pairs new p added absent known members = inserted p pairs new added (λ member. absent (inl member)) known members

-- where nothing is added the list stays
pub nothing_inserted : (pairs new : List NumberPair) (p : NumberPair) (added : Bool) → added ≡ false → new ≡ (if added then pairs ++ p ∷ [] else pairs) → new ≡ pairs
nothing_inserted pairs new p added wasnt members = members ∙ ap (λ (b : Bool). if b then pairs ++ p ∷ [] else pairs) wasnt

-- a pair that is added, and whose other order isn't there, was not there
pub added_absent : (pairs : List NumberPair) (p : NumberPair) → (IsMember pairs p → ⊥) → ((p.lead ≡ []) × IsMember pairs (swapped p) → ⊥) → IsThere pairs p.ahead p.behind p.lead → ⊥
added_absent pairs p new other (inl h) = new h
added_absent pairs p new other (inr h) = other h

-- ---- What becomes of a lead

pub followed_still : (pairs : List NumberPair) (ahead : ℕ) (lead : List ℕ) (e : Edge) (rest : List ℕ) → lead ≡ e.cells ++ rest → IsThere pairs ahead e.next rest → IsFollowed pairs ahead lead e
followed_still pairs ahead lead e rest longer there = record {
  still = λ other is. subst (IsThere pairs ahead e.next) (append_cancel_left e.cells rest other (sym longer ∙ is)) there;
  swapped = λ other some is. absurd (some (none_left lead rest other (longer ∙ ap (λ (z : List ℕ). z ++ rest) is)));
}

pub followed_swapped : (pairs : List NumberPair) (ahead : ℕ) (lead : List ℕ) (e : Edge) (rest : List ℕ) → rest ≢ [] → e.cells ≡ lead ++ rest → IsThere pairs e.next ahead rest → IsFollowed pairs ahead lead e
followed_swapped pairs ahead lead e rest some shorter there = record {
  still = λ other is. absurd (some (none_left lead other rest (is ∙ ap (λ (z : List ℕ). z ++ other) shorter)));
  swapped = λ other more is. subst (IsThere pairs e.next ahead) (append_cancel_left lead rest other (sym shorter ∙ is)) there;
}

-- ---- Where pairs are added

there_more : (ps qs : List NumberPair) → Stays ps qs → (ahead behind : ℕ) (lead : List ℕ) → IsThere ps ahead behind lead → IsThere qs ahead behind lead
there_more ps qs stays ahead behind lead (inl h) = inl (h.0, stays h.0 _ h.1)
there_more ps qs stays ahead behind lead (inr h) = inr (h.0, (h.1.0, stays h.1.0 _ h.1.1))

pub followed_more : (ps qs : List NumberPair) → Stays ps qs → (ahead : ℕ) (lead : List ℕ) (e : Edge) → IsFollowed ps ahead lead e → IsFollowed qs ahead lead e
followed_more ps qs stays ahead lead e h = record {
  still = λ rest is. there_more ps qs stays ahead e.next rest (h.still rest is);
  swapped = λ rest some is. there_more ps qs stays e.next ahead rest (h.swapped rest some is);
}
