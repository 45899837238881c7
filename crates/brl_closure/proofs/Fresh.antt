-- Parts that aren't kept yet: the next step of one, the parts that are kept, and their numbers.
use Rattle.std.proofs.Common.{◌≡◌, ◌⊎◌, ◌↔◌, ℕ, zero, suc, ◌+◌, ◌-◌, ◌<◌, ◌≤◌, Bool, true, false, cond, nat_eq, List, [], ◌∷◌, ◌++◌, All, length, map, take, reverse, Option, Some, None, slice_get, get_or, set, inl, inr, refl, sym, ◌∙◌, ap, subst, append_assoc, arith}
use Rattle.std.specs.Prelude.{IfNone, IfSome, IsSome, MatchOption}
use Rattle.std.specs.Global.{Vec}
use Rattle.std.specs.List.{AllZip, flat_map, sum_by}
use Rattle.std.proofs.lemmas.Bool.{eq-eqb}
use Rattle.std.proofs.lemmas.List.Sums.{sum_by-set}
use Rattle.std.proofs.lemmas.List.Elements.{All-more, All-weaker}
use Rattle.std.proofs.lemmas.Option.{get_or_from_slice_get, slice_get-get_or, slice_get_within}
use Rattle.brl_pairs.specs.declared.edge.ListedEdge.{ListedEdge}
use Rattle.brl_pairs.specs.declared.step.Step.{Step}
use Rattle.brl_parts.specs.Parts.{AreKeptParts, IsKept, PartsView, or_no_edges}
use Rattle.brl_closure.specs.Fresh.{ArePlaced, HasStepLeft, HaveNumbers, IsAmong, IsAtPlace, IsBegun, IsOneOf, IsPartly, IsWhole, IsWithin, LeadsFrom, number_at, part_of}
use Rattle.brl_closure.specs.SearchView.{Stays}
use Rattle.brl_closure.proofs.Additions.{taken_more}
use Rattle.brl_closure.proofs.Listing.{number_is}
use Rattle.brl_pairs.specs.Listed.{AreListedEdges, IsByNumbers}
use Rattle.brl_pairs.specs.Runs.{Behaviour, IsListed}
use Rattle.brl_pairs.proofs.ListedLaws.{listed_push, none_listed, still_listed}
use Rattle.std.proofs.lemmas.List.{length-map, reverse-append}
use Rattle.brl_pairs.specs.Parted.{ArePartsOf, of_rule}
use Rattle.brl_pairs.proofs.Along.{along-each}
use Rattle.brl_pairs.proofs.Listing.{IsIn, at-in, in-at, in-flat_map}
use Rattle.brl_parts.proofs.Merging.{IsNumberOf}
use Rattle.brl_closure.specs.declared.search.fresh.Fresh.{Fresh}
use Rattle.brl_closure.specs.declared.search.fresh.Next.{Next}
use Rattle.brl_closure.specs.declared.search.fresh.Place.{Place}
use Rattle.brl_closure.specs.declared.search.fresh.Place.TheVariants.{Known, New}
use Rattle.brl_pairs.proofs.Lists.{count_push, each_push, inside, mapped_at, mapped_from, push_before, push_last}

none_of : {X : Type 0} (xs : List X) → (0 < length xs → ⊥) → xs ≡ []
none_of [] h = refl
none_of (x ∷ xs) h = absurd (h (omega arith))

module _ {S P : Type 0} (fresh : List (Fresh S P)) where
  -- the step is left at its place, or no step is left before this place
  abbrev pub IsNextBelow : ℕ → Option Next → Type 0
  IsNextBelow k least = MatchOption least (All (λ f. f.left.items ≡ []) (take k fresh)) (λ next. HasStepLeft fresh next.place)

  pub next_more : (k : ℕ) (f : Fresh S P) (least result : Option Next) (rule : Option ℕ) → slice_get fresh k ≡ Some f → IsSome rule ↔ (0 < length f.left.items)
      → IfSome result (λ next. (least ≡ Some next) ⊎ ((next.place ≡ k) × IsSome rule)) → IfNone result ((least ≡ None) × (IsSome rule → ⊥)) → IsNextBelow k least → IsNextBelow (k + 1) result
  next_more k f least None rule at is some none before =
      let empty : f.left.items ≡ [] = none_of f.left.items (λ left. none.1 (is.1 left)) in
      All-more (λ (h : Fresh S P). h.left.items ≡ []) fresh k f (slice_get_within fresh k f at) (subst (IsNextBelow k) none.0 before)
      (subst (λ (h : Fresh S P). h.left.items ≡ []) (sym (get_or_from_slice_get fresh k f f at)) empty)
  next_more k f least (Some next) rule at is some none before = elim some [
    | inl same ↦ subst (IsNextBelow k) same before
    | inr here ↦ record { part = f; at = ap (slice_get fresh) here.0 ∙ at; some = is.0 here.1 }
  ]

-- ---- Keeping parts

module _ {S P : Type 0} (old new : PartsView P) (stays : (k : ℕ) (p : P) → slice_get old.parts k ≡ Some p → slice_get new.parts k ≡ Some p) where
  pub numbers_more : (fresh : List (Fresh S P)) (numbers : List ℕ) (f : Fresh S P) (number : ℕ) → HaveNumbers old.parts fresh numbers → slice_get new.parts number ≡ Some f.part → HaveNumbers new.parts (fresh ++ f ∷ []) (numbers ++ number ∷ [])
  numbers_more fresh numbers f number h at =
      let has : PartsView P → Fresh S P → ℕ → Type 0 = λ kept g n. slice_get kept.parts n ≡ Some g.part in
      record { count = count_push fresh numbers f number h.count; each = each_push fresh numbers f number h.count (has old) (has new) (λ g n. stays n g.part) h.each at }

-- one more of these parts
pub one_more : {S P : Type 0} (fresh : List (Fresh S P)) (f : Fresh S P) (part : P) (edges : Vec ListedEdge) → IsOneOf fresh part edges → IsOneOf (fresh ++ f ∷ []) part edges
one_more fresh f part edges h = record { place = h.place; one = h.one; at = push_before fresh f h.place h.one h.at; same_part = h.same_part; same_edges = h.same_edges }

pub one_last : {S P : Type 0} (fresh : List (Fresh S P)) (f : Fresh S P) → IsOneOf (fresh ++ f ∷ []) f.part f.edges
one_last fresh f = record { place = length fresh; one = f; at = push_last fresh f; same_part = refl; same_edges = refl }

-- ---- Taking steps by numbers

-- the last of the steps that are left is the next one of the part
next_of_left : {X : Type 0} (steps done left rest : List X) (x : X) → steps ≡ done ++ reverse left → left ≡ rest ++ x ∷ [] → steps ≡ done ++ x ∷ reverse rest
next_of_left steps done left rest x split is = split ∙ ap (λ l. done ++ l) (ap reverse is ∙ reverse-append rest (x ∷ []))

at_end : {X : Type 0} (done more : List X) (x : X) → slice_get (done ++ x ∷ more) (length done) ≡ Some x
at_end [] more x = refl
at_end (y ∷ done) more x = at_end done more x

module _ {S P : Type 0} (m : Behaviour S) (steps_of : P → List (Step S)) (number : ℕ) where
  pub partly_step : (states : List S) (cells : List (List ℕ)) (f : Fresh S P) (rest : List (Step S)) (x : Step S) → IsPartly m steps_of states cells number f → f.left.items ≡ rest ++ x ∷ [] → LeadsFrom m states number x
  partly_step states cells f rest x h is = h.from x (length h.done, ap (λ l. slice_get l (length h.done)) (next_of_left (steps_of f.part) h.done f.left.items rest x h.split is) ∙ at_end h.done (reverse rest) x)

  module _ (old new : List S) (stays : Stays old new) (before after : List (List ℕ)) (kept : Stays before after) where
    pub partly_still : (f : Fresh S P) → IsPartly m steps_of old before number f → IsPartly m steps_of new after number f
    partly_still f h = record {
      done = h.done;
      split = h.split;
      edges = still_listed old new stays before after kept h.done f.edges.items h.edges;
      from = λ x listed. (let a = h.from x listed in (a.0, taken_more m old new stays number a.0 x a.1));
    }

    pub partly_more : (f g : Fresh S P) (rest : List (Step S)) (x : Step S) (e : ListedEdge) → IsPartly m steps_of old before number f → f.left.items ≡ rest ++ x ∷ [] → g.part ≡ f.part → g.left.items ≡ rest → g.edges.items ≡ f.edges.items ++ e ∷ [] → IsByNumbers new after x e
        → IsPartly m steps_of new after number g
    partly_more f g rest x e h is part left edges own =
        let same : steps_of g.part ≡ steps_of f.part = ap steps_of part in
        record {
          done = h.done ++ x ∷ [];
          split = same ∙ next_of_left (steps_of f.part) h.done f.left.items rest x h.split is ∙ sym (append_assoc h.done (x ∷ []) (reverse rest)) ∙ ap (λ l. (h.done ++ x ∷ []) ++ reverse l) (sym left);
          edges = subst (λ (es : List ListedEdge). AreListedEdges new after (h.done ++ x ∷ []) es) (sym edges) (listed_push old new stays before after kept h.done f.edges.items x e h.edges own);
          from = λ y listed. (
              let a = h.from y (subst (λ (l : List (Step S)). IsListed l y) same listed) in
              (a.0, taken_more m old new stays number a.0 y a.1));
        }

  pub begun_partly : (states : List S) (cells : List (List ℕ)) (f : Fresh S P) → IsBegun steps_of f.part f → ((x : Step S) → IsListed (steps_of f.part) x → LeadsFrom m states number x) → IsPartly m steps_of states cells number f
  begun_partly states cells f h from = record {
    done = [];
    split = sym h.all_left;
    edges = subst (λ (es : List ListedEdge). AreListedEdges states cells [] es) (sym h.none) (none_listed states cells);
    from = from;
  }

-- ---- Where the parts are

pub map_itself : {X : Type 0} (xs : List X) → map (λ x. x) xs ≡ xs
map_itself [] = refl
map_itself (x ∷ xs) = ap (λ l. x ∷ l) (map_itself xs)

module _ {S P : Type 0} (parts : List P) where
  at_more : (fresh : List (Fresh S P)) (f : Fresh S P) (part : P) (place : Place) → IsAtPlace parts fresh part place → IsAtPlace parts (fresh ++ f ∷ []) part place
  at_more fresh f part (Known number) h = h
  at_more fresh f part (New place) h = (h.0, push_before fresh f place h.0 h.1, h.2)

  -- one more part
  placed_push : (fresh now : List (Fresh S P)) (listed : List P) (places : List Place) (part : P) (place : Place) → ((p : P) (q : Place) → IsAtPlace parts fresh p q → IsAtPlace parts now p q) → ArePlaced parts fresh listed places → IsAtPlace parts now part place → ArePlaced parts now (listed ++ part ∷ []) (places ++ place ∷ [])
  placed_push fresh now listed places part place more h here = record {
    count = count_push listed places part place h.count;
    each = each_push listed places part place h.count (IsAtPlace parts fresh) (IsAtPlace parts now) more h.each here;
  }

  pub placed_known : (fresh : List (Fresh S P)) (listed : List P) (places : List Place) (part : P) (number : ℕ) → ArePlaced parts fresh listed places → slice_get parts number ≡ Some part → ArePlaced parts fresh (listed ++ part ∷ []) (places ++ Known number ∷ [])
  placed_known fresh listed places part number h at = placed_push fresh fresh listed places part (Known number) (λ p q is. is) h at

  pub placed_new : (fresh : List (Fresh S P)) (listed : List P) (places : List Place) (f : Fresh S P) (part : P) → f.part ≡ part → ArePlaced parts fresh listed places → ArePlaced parts (fresh ++ f ∷ []) (listed ++ part ∷ []) (places ++ New (length fresh) ∷ [])
  placed_new fresh listed places f part same h = placed_push fresh (fresh ++ f ∷ []) listed places part (New (length fresh)) (at_more fresh f) h (f, push_last fresh f, same)

-- the parts are listed where one more is
pub among_more : {S P : Type 0} (listed : List P) (part : P) (B : Fresh S P → Type 0) (fresh : List (Fresh S P)) → All (λ f. IsAmong listed f.part × B f) fresh → All (λ f. IsAmong (listed ++ part ∷ []) f.part × B f) fresh
among_more listed part B fresh h = All-weaker (λ f. IsAmong listed f.part × B f) (λ f. IsAmong (listed ++ part ∷ []) f.part × B f) (λ f is. ((is.0.0, push_before listed part is.0.0 f.part is.0.1), is.1)) fresh h

-- ---- One part goes on by a step

module _ {S P : Type 0} where
  pub fewer_left : (fresh : List (Fresh S P)) (k : ℕ) (f g : Fresh S P) → slice_get fresh k ≡ Some f → 0 < length f.left.items → length g.left.items ≡ length f.left.items - 1
      → sum_by (λ (h : Fresh S P). length h.left.items) (set fresh k g) < sum_by (λ (h : Fresh S P). length h.left.items) fresh
  fewer_left fresh k f g at some less =
      let total = sum_by-set (λ (h : Fresh S P). length h.left.items) fresh k g f (slice_get_within fresh k f at) in
      let here : length (get_or fresh k f).left.items ≡ length f.left.items = ap (λ (h : Fresh S P). length h.left.items) (get_or_from_slice_get fresh k f f at) in
      omega (arith, total, here, some, less)

  pub same_parts : (fresh : List (Fresh S P)) (k : ℕ) (f g : Fresh S P) → slice_get fresh k ≡ Some f → g.part ≡ f.part → map part_of (set fresh k g) ≡ map part_of fresh
  same_parts [] k f g at same = refl
  same_parts (h ∷ fresh) zero f g at same = (let e : h ≡ f = cc in ap (λ p. p ∷ map part_of fresh) (same ∙ sym (ap part_of e)))
  same_parts (h ∷ fresh) (suc k) f g at same = ap (λ l. h.part ∷ l) (same_parts fresh k f g at same)

-- ---- The edges of a state from those of its parts

module _ {S : Type 0} where
  in_rule : (x : Step S) (xs : List (Step S)) → IsIn x xs → IsIn x (of_rule x.rule xs)
  in_rule x [] h = absurd h
  in_rule x (y ∷ xs) (inl e) = subst (λ (t : Bool). IsIn x (cond t (y ∷ of_rule x.rule xs) (of_rule x.rule xs))) (sym (eq-eqb x.rule y.rule (ap (λ (z : Step S). z.rule) e))) (inl e)
  in_rule x (y ∷ xs) (inr h) = at (nat_eq x.rule y.rule) (in_rule x xs h)
    where
      at : (t : Bool) → IsIn x (of_rule x.rule xs) → IsIn x (cond t (y ∷ of_rule x.rule xs) (of_rule x.rule xs))
      at true more = inr more
      at false more = more

  from_rule : (k : ℕ) (x : Step S) (xs : List (Step S)) → IsIn x (of_rule k xs) → IsIn x xs
  from_rule k x [] h = absurd h
  from_rule k x (y ∷ xs) h = at (nat_eq k y.rule) (from_rule k x xs) h
    where
      at : (t : Bool) → (IsIn x (of_rule k xs) → IsIn x xs) → IsIn x (cond t (y ∷ of_rule k xs) (of_rule k xs)) → IsIn x (y ∷ xs)
      at true back (inl e) = inl e
      at true back (inr more) = inr (back more)
      at false back more = inr (back more)

-- a step of a part is one of the state
pub listed_in_state : {S P : Type 0} (steps_of : P → List (Step S)) (listed : List (Step S)) (parts : List P) → ArePartsOf steps_of listed parts → (part : P) → IsAmong parts part → (x : Step S) → IsListed (steps_of part) x → IsListed listed x
listed_in_state steps_of listed parts are part among x in_part =
    let joined = in-flat_map steps_of part x parts (at-in part parts among.0 among.1) (at-in x (steps_of part) in_part.0 in_part.1) in
    in-at x listed (from_rule x.rule x listed (subst (λ (l : List (Step _)). IsIn x l) (sym (are x.rule)) (in_rule x (flat_map steps_of parts) joined)))

module _ {S P : Type 0} (old new : PartsView P) (stays : (k : ℕ) (p : P) → slice_get old.parts k ≡ Some p → slice_get new.parts k ≡ Some p)
    (fresh now : List (Fresh S P)) (same : map part_of now ≡ map part_of fresh) (listed : List P) (places : List Place) (placed : ArePlaced old.parts fresh listed places) where
  many : length now ≡ length fresh
  many = sym (length-map now part_of) ∙ ap length same ∙ length-map fresh part_of

  pub places_within : (numbers : List ℕ) → HaveNumbers new.parts now numbers → All (IsWithin (length numbers)) places
  places_within numbers have k d within =
      let count = placed.count in
      let p = inside listed k (omega (arith, within, count)) in
      at p.0 (get_or places k d) (placed.each k p.0 (get_or places k d) p.1 (slice_get-get_or places k d within))
    where
      at : (p : P) (place : Place) → IsAtPlace old.parts fresh p place → IsWithin (length numbers) place
      at p (Known number) h = tt
      at p (New place) h = (let below = slice_get_within fresh place h.0 h.1 in let size = have.count in omega (arith, below, size, many))

  pub number_there : (numbers : List ℕ) → HaveNumbers new.parts now numbers → (k : ℕ) (p : P) (n : ℕ) → slice_get listed k ≡ Some p → slice_get (map (number_at numbers) places) k ≡ Some n → slice_get new.parts n ≡ Some p
  number_there numbers have k p n p_at n_at =
      let place = mapped_from (number_at numbers) places k n n_at in
      subst (λ (z : ℕ). slice_get new.parts z ≡ Some p) place.2 (at place.0 (placed.each k p place.0 p_at place.1))
    where
      at : (place : Place) → IsAtPlace old.parts fresh p place → slice_get new.parts (number_at numbers place) ≡ Some p
      at (Known number) h = stays number p h
      at (New place) h =
          let f = mapped_from part_of now place p (ap (λ l. slice_get l place) same ∙ mapped_at part_of fresh place h.0 h.1 ∙ ap Some h.2) in
          let below = slice_get_within now place f.0 f.1 in
          let size = have.count in
          let number = inside numbers place (omega (arith, below, size)) in
          subst (λ (z : ℕ). slice_get new.parts z ≡ Some p) (sym (get_or_from_slice_get numbers place number.0 0 number.1)) (have.each place f.0 number.0 f.1 number.1 ∙ ap Some f.2)

  pub numbers_within : (numbers : List ℕ) → HaveNumbers new.parts now numbers → All (λ n. n < length new.parts) (map (number_at numbers) places)
  numbers_within numbers have k d within =
      let size = length-map places (number_at numbers) in
      let count = placed.count in
      let p = inside listed k (omega (arith, within, size, count)) in
      slice_get_within new.parts (get_or (map (number_at numbers) places) k d) p.0 (number_there numbers have k p.0 (get_or (map (number_at numbers) places) k d) p.1 (slice_get-get_or (map (number_at numbers) places) k d within))

  pub all_numbers : (steps_of : P → List (Step S)) (states : List S) (cells : List (List ℕ)) → AreKeptParts steps_of states cells new → length new.parts ≤ length new.edges → (numbers : List ℕ) → HaveNumbers new.parts now numbers
      → AllZip (IsNumberOf steps_of states cells new) listed (map (number_at numbers) places)
  all_numbers steps_of states cells are all numbers have =
      along-each (IsNumberOf steps_of states cells new) listed (map (number_at numbers) places) (length-map places (number_at numbers) ∙ placed.count)
      (λ k p n p_at n_at. number_is steps_of states cells new are all p n (number_there numbers have k p n p_at n_at))

-- the parts that are kept, and those that are now
pub still_kept : {S P : Type 0} (steps_of : P → List (Step S)) (before states : List S) → Stays before states → (was cells : List (List ℕ)) → Stays was cells → (old new : PartsView P) (now : List (Fresh S P)) → AreKeptParts steps_of before was old → All (IsWhole steps_of states cells) now
    → ((k : ℕ) (p : P) (own : Vec ListedEdge) → IsKept new k p own → IsKept old k p own ⊎ IsOneOf now p own) → AreKeptParts steps_of states cells new
still_kept steps_of before states stays was cells kept old new now are whole each k p own is = elim (each k p own is) [
  | inl known ↦ still_listed before states stays was cells kept (steps_of p) own.items (are k p own known)
  | inr one ↦ (
      let here = whole one.place one.one (slice_get_within now one.place one.one one.at) in
      let whole_one = subst (λ (f : Fresh _ _). IsWhole steps_of states cells f) (get_or_from_slice_get now one.place one.one one.one one.at) here in
      subst (λ q. AreListedEdges states cells (steps_of q) own.items) one.same_part (subst (λ (es : Vec ListedEdge). AreListedEdges states cells (steps_of one.one.part) es.items) one.same_edges whole_one))
]

pub kept_more : {S P : Type 0} (steps_of : P → List (Step S)) (before states : List S) → Stays before states → (was cells : List (List ℕ)) → Stays was cells → (parts : PartsView P) → AreKeptParts steps_of before was parts → AreKeptParts steps_of states cells parts
kept_more steps_of before states stays was cells kept parts are k p own is = still_listed before states stays was cells kept (steps_of p) own.items (are k p own is)
