-- The pairs that the numbers of a body name.
use Rattle.std.proofs.Common.{◌≡◌, ℕ, List, Option, Some, None, slice_get, refl, sym, ◌∙◌, ap}
use Rattle.brl_pairs.specs.Sets.{pair_of, pair_at}
use Rattle.brl_pairs.specs.Body.{NumberPair, listed}
use Rattle.brl_pairs.specs.declared.step.Pair.{Pair}

-- the pair's states are those that the numbers name
pub record Names {S : Type 0} (states : List S) (q : NumberPair) (p : Pair S) : Type 0 where
  pub ahead : slice_get states q.ahead ≡ Some p.ahead
  pub behind : slice_get states q.behind ≡ Some p.behind
  pub lead : q.lead ≡ p.lead

module _ {S : Type 0} (states : List S) where
  abbrev put : Option S → Option S → List ℕ → Option (Pair S)
  put None b lead = None
  put (Some a) None lead = None
  put (Some a) (Some b) lead = Some (record { ahead = a; behind = b; lead = lead })

  same_put : (q : NumberPair) (a b : Option S) → slice_get states q.ahead ≡ a → slice_get states q.behind ≡ b → pair_of states q ≡ put a b q.lead
  same_put q None b a_is b_is = rw a_is
  same_put q (Some a) None a_is b_is = rw (a_is, b_is)
  same_put q (Some a) (Some b) a_is b_is = rw (a_is, b_is)

  taken_apart : (a b : Option S) (lead : List ℕ) (p : Pair S) → put a b lead ≡ Some p → (a ≡ Some p.ahead) × (b ≡ Some p.behind) × (lead ≡ p.lead)
  taken_apart None b lead p e = cc
  taken_apart (Some a) None lead p e = cc
  taken_apart (Some a) (Some b) lead p e =
      let same : record { ahead = a; behind = b; lead = lead } ≡ p = cc in
      (ap (λ (z : Pair S). Some z.ahead) same, ap (λ (z : Pair S). Some z.behind) same, ap (λ (z : Pair S). z.lead) same)

  pub names_of : (q : NumberPair) (p : Pair S) → pair_of states q ≡ Some p → Names states q p
  names_of q p e =
      let h = taken_apart (slice_get states q.ahead) (slice_get states q.behind) q.lead p (sym (same_put q (slice_get states q.ahead) (slice_get states q.behind) refl refl) ∙ e) in
      record { ahead = h.0; behind = h.1; lead = h.2 }

  pub named : (q : NumberPair) (p : Pair S) → Names states q p → pair_of states q ≡ Some p
  named q p h = same_put q (Some p.ahead) (Some p.behind) h.ahead h.behind ∙ (λ i. Some (record { ahead = p.ahead; behind = p.behind; lead = h.lead i }))

  -- the pair with a number
  pub record NamedAt (pairs : List NumberPair) (n : ℕ) (p : Pair S) : Type 0 where
    pub numbers : NumberPair
    pub at : slice_get pairs n ≡ Some numbers
    pub names : Names states numbers p

  by_numbers : (pairs : List NumberPair) (n : ℕ) (p : Pair S) (o : Option NumberPair) → slice_get pairs n ≡ o → pair_at (listed states pairs) n ≡ Some p → NamedAt pairs n p
  by_numbers pairs n p None is e = absurd (let none : None ≡ Some p = sym (rw is) ∙ e in cc)
  by_numbers pairs n p (Some q) is e = record { numbers = q; at = is; names = names_of q p (sym (rw is) ∙ e) }

  pub named_at : (pairs : List NumberPair) (n : ℕ) (p : Pair S) → pair_at (listed states pairs) n ≡ Some p → NamedAt pairs n p
  named_at pairs n p e = by_numbers pairs n p (slice_get pairs n) refl e

  pub at_named : (pairs : List NumberPair) (n : ℕ) (q : NumberPair) (p : Pair S) → slice_get pairs n ≡ Some q → Names states q p → pair_at (listed states pairs) n ≡ Some p
  at_named pairs n q p at h = rw at (named q p h)
