-- Pairs that are added to a trail, each with an origin of some kind.
use Rattle.std.proofs.Common.{◌≡◌, ℕ, List, [], ◌∷◌, ◌++◌, All, inl, inr, refl, sym, ◌∙◌, ap, subst, append-nil, append_assoc}
use Rattle.std.proofs.lemmas.List.Elements.{All-nil, All-cons, All-append}
use Rattle.brl_pairs.specs.Body.{NumberPair}
use Rattle.brl_closure.specs.Trail.{AddsPairs, IsMoveOf, IsOneOf}
use Rattle.brl_closure.specs.declared.search.trail.Origins.{Origins}
use Rattle.brl_closure.specs.declared.search.trail.PairOrigin.{PairOrigin}
use Rattle.brl_closure.specs.declared.search.trail.PairOrigin.TheVariants.{Still, Swapped}
use Rattle.brl_closure.specs.declared.search.trail.Trail.{Trail}

module _ {S : Type 0} (Kind : PairOrigin → Type 0) where
  -- nothing is added
  pub adds_none : (t u : Trail S) → u.states ≡ t.states → u.state_origins.items ≡ t.state_origins.items → u.pairs ≡ t.pairs → u.pair_origins.items ≡ t.pair_origins.items → AddsPairs Kind t u
  adds_none t u states state_origins pairs origins = record {
    states = states;
    state_origins = state_origins;
    more = [];
    origins = [];
    pairs = pairs ∙ sym (append-nil t.pairs);
    pair_origins = origins ∙ sym (append-nil t.pair_origins.items);
    kinds = All-nil Kind;
  }

  -- a pair is added, and its origin isn't yet: memory ran out
  pub adds_pair : (t u : Trail S) (p : NumberPair) → u.states ≡ t.states → u.state_origins.items ≡ t.state_origins.items → u.pairs ≡ t.pairs ++ p ∷ [] → u.pair_origins.items ≡ t.pair_origins.items → AddsPairs Kind t u
  adds_pair t u p states state_origins pairs origins = record {
    states = states;
    state_origins = state_origins;
    more = p ∷ [];
    origins = [];
    pairs = pairs;
    pair_origins = origins ∙ sym (append-nil t.pair_origins.items);
    kinds = All-nil Kind;
  }

  -- a pair is added with its origin
  pub adds_one : (t u : Trail S) (p : NumberPair) (o : PairOrigin) → Kind o → u.states ≡ t.states → u.state_origins.items ≡ t.state_origins.items → u.pairs ≡ t.pairs ++ p ∷ [] → u.pair_origins.items ≡ t.pair_origins.items ++ o ∷ [] → AddsPairs Kind t u
  adds_one t u p o kind states state_origins pairs origins = record {
    states = states;
    state_origins = state_origins;
    more = p ∷ [];
    origins = o ∷ [];
    pairs = pairs;
    pair_origins = origins;
    kinds = All-cons Kind o [] kind (All-nil Kind);
  }

  -- pairs of one kind are added, and then pairs of another
  pub adds_then : (First Second : PairOrigin → Type 0) → ((o : PairOrigin) → First o → Kind o) → ((o : PairOrigin) → Second o → Kind o) → (t u v : Trail S) → AddsPairs First t u → AddsPairs Second u v → AddsPairs Kind t v
  adds_then First Second one two t u v a b = record {
    states = b.states ∙ a.states;
    state_origins = b.state_origins ∙ a.state_origins;
    more = a.more ++ b.more;
    origins = a.origins ++ b.origins;
    pairs = b.pairs ∙ ap (λ (ps : List NumberPair). ps ++ b.more) a.pairs ∙ append_assoc t.pairs a.more b.more;
    pair_origins = b.pair_origins ∙ ap (λ (os : List PairOrigin). os ++ b.origins) a.pair_origins ∙ append_assoc t.pair_origins.items a.origins b.origins;
    kinds = All-append Kind a.origins b.origins (λ k d less. one _ (a.kinds k d less)) (λ k d less. two _ (b.kinds k d less));
  }

  pub adds_trans : (t u v : Trail S) → AddsPairs Kind t u → AddsPairs Kind u v → AddsPairs Kind t v
  adds_trans = adds_then Kind Kind (λ o is. is) (λ o is. is)

-- the same by another kind
pub adds_as : {S : Type 0} (Kind Other : PairOrigin → Type 0) (t u : Trail S) → ((o : PairOrigin) → Kind o → Other o) → AddsPairs Kind t u → AddsPairs Other t u
adds_as Kind Other t u then h = adds_then Other Kind Kind then then t t u (adds_none Kind t t refl refl refl refl) h

-- one of the two origins of a move
pub move_origin : (number place : ℕ) (o : PairOrigin) → IsOneOf (record { still = Still number place; swapped = Swapped number place }) o → IsMoveOf number o
move_origin number place o (inl is) = subst (IsMoveOf number) (sym is) refl
move_origin number place o (inr is) = subst (IsMoveOf number) (sym is) refl
