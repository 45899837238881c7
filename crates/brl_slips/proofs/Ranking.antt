-- Twins in their order.
use Rattle.std.proofs.Common.{◌≡◌, ◌&&◌, Bool, true, false, List, Ordering, Less, Equal, Greater, sym, refl, ◌∙◌, arith, get_or, nat_eq, true≢false}
use Rattle.std.specs.Cmp.{IsTotalOrder, nat_eq_equiv}
use Rattle.std.specs.List.{IsDistinct}
use Rattle.std.specs.List.Sorted.{IsPermutation, IsSorted}
use Rattle.std.specs.Ordering.{is_lt, nat_cmp, ordering_reverse, ordering_then}
use Rattle.std.proofs.lemmas.Bool.{and_from, and_parts, eq-eqb, eqb-true, false_from_ne_true}
use Rattle.std.proofs.lemmas.Cmp.{back_total, nat_cmp_total, on_total, then_total}
use Rattle.std.proofs.lemmas.List.Elements.{All-get_or}
use Rattle.std.proofs.lemmas.List.Sorted.{All-permutation, Contains-permutation, ranks_by, sorted_far}
use Rattle.std.proofs.lemmas.Map.Keys.{IsDistinct-IsPermutation, IsDistinct-from_apart, apart_from_distinct}
use Rattle.std.proofs.lemmas.Map.Lookups.{exact_unsigned}
use Rattle.brl_slips.specs.Pairing.{AreAll}
use Rattle.brl_slips.specs.Twins.{AreShown, AreTwins, twins_cmp}
use Rattle.brl_slips.specs.declared.lexicon.Lexicon.{Lexicon}
use Rattle.brl_slips.specs.declared.twins.Twins.{Twins}
use Rattle.brl_slips.proofs.Pairing.{twins_same}

-- the order is total
abbrev pub ordered_twins : IsTotalOrder twins_cmp
ordered_twins = then_total (on_total (λ (twins : Twins). twins.length) (back_total nat_cmp_total))
    (then_total (on_total (λ (twins : Twins). twins.one) nat_cmp_total) (on_total (λ (twins : Twins). twins.other) nat_cmp_total))

-- two twins are of the same rules
abbrev are_same : Twins → Twins → Bool
are_same t u = nat_eq t.one u.one && nat_eq t.other u.other

are_same_flips : (t u : Twins) → are_same t u ≡ are_same u t
are_same_flips t u = λ i. nat_eq_equiv.symm t.one u.one i && nat_eq_equiv.symm t.other u.other i

then_parts : (a b : Ordering) → ordering_then a b ≡ Equal → (a ≡ Equal) × (b ≡ Equal)
then_parts Less b e = cc
then_parts Equal b e = (refl, e)
then_parts Greater b e = cc

less_from : (o : Ordering) → is_lt o ≡ false → (o ≡ Equal → ⊥) → ordering_reverse o ≡ Less
less_from Less lt ne = absurd (true≢false lt)
less_from Equal lt ne = absurd (ne refl)
less_from Greater lt ne = refl

-- twins of different rules aren't tied
tied : (t u : Twins) → twins_cmp t u ≡ Equal → are_same t u ≡ true
tied t u e =
    let rules = then_parts (nat_cmp t.one u.one) (nat_cmp t.other u.other) (then_parts (nat_cmp u.length t.length) (ordering_then (nat_cmp t.one u.one) (nat_cmp t.other u.other)) e).1 in
    and_from (nat_eq t.one u.one) (nat_eq t.other u.other) (eq-eqb t.one u.one (exact_unsigned t.one u.one rules.0)) (eq-eqb t.other u.other (exact_unsigned t.other u.other rules.1))

-- all that are shown, in their order
pub twins_in_order : (lexicon : Lexicon) (kept sorted : List Twins) → AreAll (AreShown lexicon) kept → IsPermutation kept sorted → IsSorted twins_cmp sorted → AreTwins lexicon sorted
twins_in_order lexicon kept sorted are moved up =
    let different : IsDistinct are_same kept = IsDistinct-from_apart are_same kept (λ i j d lt within.
    let t = get_or kept i d in
    let u = get_or kept j d in
    false_from_ne_true (are_same t u) (λ holds.
    let both = and_parts (nat_eq t.one u.one) (nat_eq t.other u.other) holds in
    are.once i j d lt within (twins_same lexicon t u (All-get_or (AreShown lexicon) kept i d (omega (arith, lt, within)) are.each).0.are (All-get_or (AreShown lexicon) kept j d within are.each).0.are
    (eqb-true t.one u.one both.0) (eqb-true t.other u.other both.1)))) in
    let apart = IsDistinct-IsPermutation are_same are_same_flips kept sorted moved different in
    record {
      order = λ i j d lt within.
          let t = get_or sorted i d in
          let u = get_or sorted j d in
          ordered_twins.antisymm t u
          ∙ less_from (twins_cmp u t) (sorted_far (λ x y. is_lt (twins_cmp x y)) (ranks_by ordered_twins (λ x. x)) sorted up i j d (omega (arith, lt)) within)
          (λ e. true≢false (sym (tied u t e) ∙ (are_same_flips u t ∙ apart_from_distinct are_same sorted i j d apart lt within)));
      each = All-permutation (AreShown lexicon) kept sorted moved are.each;
      whole = λ t is. Contains-permutation kept sorted t moved (are.whole t is);
    }
