-- Pairs of rules that are looked up, and what they excuse. Where there are none, nothing is
-- excused.
use Rattle.std.proofs.Common.{◌≡◌, ◌+◌, ℕ, Bool, true, false, ◌&&◌, ◌||◌, nat_eq, List, [], ◌∷◌, ◌++◌, inl, inr, Some, slice_get, take, refl, sym, ◌∙◌, ap, ap₂, subst, arith}
use Rattle.std.proofs.lemmas.Bool.{or_parts}
use Rattle.std.specs.List.{list_any}
use Rattle.std.proofs.lemmas.List.Folds.{list_any-append}
use Rattle.brl_pairs.specs.Divergence.{has_rules}
use Rattle.brl_pairs.specs.Exchanges.{AreExcused, IsClosedUpTo}
use Rattle.brl_pairs.specs.Pairs.{IsClosed, Sets}
use Rattle.brl_pairs.specs.Runs.{Behaviour}
use Rattle.brl_pairs.specs.declared.step.Step.{Step}
use Rattle.brl_pairs.specs.Excused.{AreLookedUp, has_pair, is_pair, names_rule}
use Rattle.brl_pairs.proofs.Lists.{take-got}

-- ---- In either order

number_back : (a b : ℕ) → nat_eq a b ≡ nat_eq b a
number_back a b = grind arith

one_order : (a b e f : Bool) → ((a || b) || (e || f)) ≡ ((a || e) || (b || f))
one_order true b e f = refl
one_order false true true f = refl
one_order false true false f = refl
one_order false false e f = refl

-- two rules are those of one of the pairs where they are there in one of the orders
pub in_either_order : (pairs : List (ℕ × ℕ)) (r s : ℕ) → has_rules pairs r s ≡ (has_pair pairs (r, s) || has_pair pairs (s, r))
in_either_order [] r s = refl
in_either_order (pair ∷ pairs) r s =
    ap (λ (b : Bool). ((nat_eq pair.0 r && nat_eq pair.1 s) || (nat_eq pair.0 s && nat_eq pair.1 r)) || b) (in_either_order pairs r s)
    ∙ ap₂ (λ (a b : Bool). (a || b) || (has_pair pairs (r, s) || has_pair pairs (s, r))) (ap₂ ◌&&◌ (number_back pair.0 r) (number_back pair.1 s)) (ap₂ ◌&&◌ (number_back pair.0 s) (number_back pair.1 r))
    ∙ one_order (is_pair (r, s) pair) (is_pair (s, r) pair) (has_pair pairs (r, s)) (has_pair pairs (s, r))

-- ---- One more pair

one_more : {X : Type 0} (p : X → Bool) (xs : List X) (x : X) → list_any p (xs ++ x ∷ []) ≡ (list_any p xs || p x)
one_more p xs x = list_any-append p xs (x ∷ []) ∙ ap (λ (b : Bool). list_any p xs || b) (last (p x))
  where
    last : (b : Bool) → (b || false) ≡ b
    last true = refl
    last false = refl

module _ (given : List (ℕ × ℕ)) (n : ℕ) (pair : ℕ × ℕ) (at : slice_get given n ≡ Some pair) (set set' : List (ℕ × ℕ)) (rules one both : List ℕ) where
  pub looked_up_too : AreLookedUp (take n given) set rules → ((other : ℕ × ℕ) → has_pair set' other ≡ (has_pair set other || is_pair other pair))
      → ((rule : ℕ) → list_any (nat_eq rule) one ≡ (list_any (nat_eq rule) rules || nat_eq rule pair.0))
      → ((rule : ℕ) → list_any (nat_eq rule) both ≡ (list_any (nat_eq rule) one || nat_eq rule pair.1)) → AreLookedUp (take (n + 1) given) set' both
  looked_up_too h pairs first second =
      subst (λ (l : List (ℕ × ℕ)). AreLookedUp l set' both) (sym (take-got given n pair at)) (record {
        same_pairs = λ other. pairs other ∙ ap (λ (b : Bool). b || is_pair other pair) (h.same_pairs other) ∙ sym (one_more (is_pair other) (take n given) pair);
        same_rules = λ rule. second rule ∙ ap (λ (b : Bool). b || nat_eq rule pair.1) (first rule ∙ ap (λ (b : Bool). b || nat_eq rule pair.0) (h.same_rules rule))
            ∙ joined (names_rule (take n given) rule) (nat_eq rule pair.0) (nat_eq rule pair.1)
            ∙ sym (one_more (λ (q : ℕ × ℕ). nat_eq rule q.0 || nat_eq rule q.1) (take n given) pair);
      })
    where
      joined : (a b c : Bool) → ((a || b) || c) ≡ (a || (b || c))
      joined true b c = refl
      joined false b c = refl

-- ---- Rules that no pair has

-- no pair has a rule that none names
pub unnamed : (pairs : List (ℕ × ℕ)) (r s : ℕ) → names_rule pairs r ≡ false → has_rules pairs r s ≡ false
unnamed [] r s h = refl
unnamed (pair ∷ pairs) r s h =
    let (here, none) = or_parts (nat_eq r pair.0 || nat_eq r pair.1) (names_rule pairs r) h in
    let (one, other) = or_parts (nat_eq r pair.0) (nat_eq r pair.1) here in
    ap₂ ◌||◌ (neither (nat_eq pair.0 r) (nat_eq pair.1 s) (nat_eq pair.0 s) (nat_eq pair.1 r)
    (number_back pair.0 r ∙ one) (number_back pair.1 r ∙ other)) (unnamed pairs r s none)
  where
    neither : (a b c d : Bool) → a ≡ false → d ≡ false → ((a && b) || (c && d)) ≡ false
    neither false b true false a_is d_is = refl
    neither false b false false a_is d_is = refl
    neither true b c d a_is d_is = cc
    neither false b c true a_is d_is = cc

-- ---- Nothing is excused

module _ {S : Type 0} where
  pub nothing_excused : (x y : Step S) → AreExcused [] [] x y → ⊥
  nothing_excused x y (inl have) = cc
  nothing_excused x y (inr exchange) = (let have = exchange.rules in cc)

  module _ (m : Behaviour S) (sets : Sets S) where
    pub closed_from_up_to : IsClosedUpTo m [] [] sets → IsClosed m sets
    closed_from_up_to closed = record {
      start = closed.start;
      steps = closed.steps;
      splits = λ s p has h. elim (closed.splits s p has h) [ inl excused ↦ absurd (nothing_excused h.longer h.shorter excused) | inr there ↦ there ];
      moves = closed.moves;
      ends = closed.ends;
    }

    pub up_to_from_closed : IsClosed m sets → IsClosedUpTo m [] [] sets
    up_to_from_closed closed = record {
      start = closed.start;
      steps = closed.steps;
      splits = λ s p has h. inr (closed.splits s p has h);
      moves = closed.moves;
      ends = closed.ends;
    }
