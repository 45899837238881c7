-- The first two edges of each kind are kept, one edge after the other.
use Rattle.std.proofs.Common.{◌≡◌, ◌==◌, ℕ, ◌<◌, List, [], ◌∷◌, ◌++◌, ◌⊎◌, inl, inr, ◌+◌, length, get_or, map, take, Bool, true, false, if◌then◌else◌, Some, slice_get, refl, sym, ◌∙◌, ap, subst, add-one, arith}
use Rattle.std.proofs.lemmas.Bool.{cases_eq}
use Rattle.std.proofs.lemmas.Bool.Decides.{eqb_tells}
use Rattle.std.proofs.Math.Seq.{take-suc}
use Rattle.std.proofs.lemmas.List.{map-append}
use Rattle.std.proofs.lemmas.Option.{slice_get_within}
use Rattle.brl_closure.specs.Alike.{AreFirstTwo, HasTwo, IsCounted, IsOfKind, Kind, kind_of, kind_with, number_kind}
use Rattle.brl_closure.specs.declared.check.kinds.Kind.{Kind as NumberKind}
use Rattle.brl_closure.proofs.FirstTwo.{all_kept}
use Rattle.brl_pairs.specs.Listed.{edge_of, edges_with}
use Rattle.brl_pairs.specs.declared.edge.Edge.{Edge}
use Rattle.brl_pairs.specs.declared.excused.Excused.{Excused}
use Rattle.brl_pairs.specs.declared.edge.ListedEdge.{ListedEdge}
use Rattle.brl_pairs.specs.Members.{IsMember}
use Rattle.brl_pairs.proofs.Lists.{inside, length_push, mapped_at, push_before, push_cases, push_last}

-- ---- A function with another value at one place

abbrev with_value : (ℕ → ℕ) → ℕ → ℕ → ℕ → ℕ
with_value f place value k = if k == place then value else f k

value_here : (f : ℕ → ℕ) (place value k : ℕ) → k ≡ place → with_value f place value k ≡ value
value_here f place value k is = elim (eqb_tells k place) [ inl t ↦ rw t.0 refl | inr t ↦ absurd (t.1 is) ]

value_there : (f : ℕ → ℕ) (place value k : ℕ) → (k ≡ place → ⊥) → with_value f place value k ≡ f k
value_there f place value k apart = elim (eqb_tells k place) [ inl t ↦ absurd (apart t.1) | inr t ↦ rw t.0 refl ]

module _ (excused : Excused) where
  -- ---- One more kept edge

  -- one of the edges is of this kind
  abbrev pub HasOne : List Edge → Kind → Type 0
  HasOne edges kind = (place : ℕ) × IsOfKind excused edges kind place

  module _ (kept : List Edge) (x : Edge) where
    abbrev still_of_kind : (kind : Kind) (place : ℕ) → IsOfKind excused kept kind place → IsOfKind excused (kept ++ x ∷ []) kind place
    still_of_kind kind place is = record { edge = is.edge; at = push_before kept x place is.edge is.at; has_kind = is.has_kind }

    last_of_kind : (kind : Kind) → kind_of excused x ≡ kind → IsOfKind excused (kept ++ x ∷ []) kind (length kept)
    last_of_kind kind is = record { edge = x; at = push_last kept x; has_kind = is }

    abbrev still_two : (kind : Kind) → HasTwo excused kept kind → HasTwo excused (kept ++ x ∷ []) kind
    still_two kind two = record {
      first = two.first;
      second = two.second;
      in_order = two.in_order;
      first_is = still_of_kind kind two.first two.first_is;
      second_is = still_of_kind kind two.second two.second_is;
    }

    now_two : (kind : Kind) → kind_of excused x ≡ kind → HasOne kept kind → HasTwo excused (kept ++ x ∷ []) kind
    now_two kind is one = record {
      first = one.0;
      second = length kept;
      in_order = slice_get_within kept one.0 one.1.edge one.1.at;
      first_is = still_of_kind kind one.0 one.1;
      second_is = last_of_kind kind is;
    }

  -- ---- One more edge

  module _ (edges kept : List Edge) (h : AreFirstTwo excused edges kept) (x : Edge) where
    -- it is kept
    first_two_push : AreFirstTwo excused (edges ++ x ∷ []) (kept ++ x ∷ [])
    first_two_push = record { origin = origin; same = same; ascend = ascend; each = each }
      where
        origin : ℕ → ℕ
        origin = with_value h.origin (length kept) (length edges)

        old : (k : ℕ) → k < length kept → origin k ≡ h.origin k
        old k within = value_there h.origin (length kept) (length edges) k (λ is. absurd (omega (arith, within, is)))

        new : (k : ℕ) → k ≡ length kept → origin k ≡ length edges
        new k is = value_here h.origin (length kept) (length edges) k is

        same : (place : ℕ) (y : Edge) → slice_get (kept ++ x ∷ []) place ≡ Some y → slice_get (edges ++ x ∷ []) (origin place) ≡ Some y
        same place y at = elim (push_cases kept x place y at) [
          | inl before ↦ ap (slice_get (edges ++ x ∷ [])) (old place (slice_get_within kept place y before)) ∙ push_before edges x (h.origin place) y (h.same place y before)
          | inr last ↦ ap (slice_get (edges ++ x ∷ [])) (new place last.0) ∙ push_last edges x ∙ ap (λ (z : Edge). Some z) last.1
        ]

        origin_within : (k : ℕ) → k < length kept → h.origin k < length edges
        origin_within k within = (let e = inside kept k within in slice_get_within edges (h.origin k) e.0 (h.same k e.0 e.1))

        ascend : (i j : ℕ) → i < j → j < length (kept ++ x ∷ []) → origin i < origin j
        ascend i j less within = elim (cases_eq j (length kept)) [
          | inl last ↦ (let i_within : i < length kept = omega (arith, less, last) in omega (arith, old i i_within, new j last, origin_within i i_within))
          | inr apart ↦ (
              let j_within : j < length kept = omega (arith, within, apart, length_push kept x) in
              let i_within : i < length kept = omega (arith, less, j_within) in
              omega (arith, old i i_within, old j j_within, h.ascend i j less j_within))
        ]

        each : (place : ℕ) (y : Edge) → slice_get (edges ++ x ∷ []) place ≡ Some y
            → ((k : ℕ) × (slice_get (kept ++ x ∷ []) k ≡ Some y) × (origin k ≡ place)) ⊎ ((two : HasTwo excused (kept ++ x ∷ []) (kind_of excused y)) × (origin two.second < place))
        each place y at = elim (push_cases edges x place y at) [
          | inl before ↦ elim (h.each place y before) [
            | inl k ↦ inl (k.0, push_before kept x k.0 y k.1, old k.0 (slice_get_within kept k.0 y k.1) ∙ k.2)
            | inr found ↦ (
                let two = found.0 in
                let within = slice_get_within kept two.second two.second_is.edge two.second_is.at in
                inr (still_two kept x (kind_of excused y) two, omega (arith, old two.second within, found.1)))
          ]
          | inr last ↦ inl (length kept, push_last kept x ∙ ap (λ (z : Edge). Some z) last.1, new (length kept) refl ∙ sym last.0)
        ]

    -- it is left out
    first_two_left : HasTwo excused kept (kind_of excused x) → AreFirstTwo excused (edges ++ x ∷ []) kept
    first_two_left two = record {
      origin = h.origin;
      same = λ place y at. push_before edges x (h.origin place) y (h.same place y at);
      ascend = h.ascend;
      each = λ place y at. elim (push_cases edges x place y at) [
        | inl before ↦ h.each place y before
        | inr last ↦ (
            let e = two.second_is.edge in
            let within = slice_get_within edges (h.origin two.second) e (h.same two.second e two.second_is.at) in
            inr (subst (λ (z : Edge). (t : HasTwo excused kept (kind_of excused z)) × (h.origin t.second < place)) last.1 (two, omega (arith, within, last.0))))
      ];
    }

  -- ---- The edges that were passed

  -- the first two of each kind are kept; these kinds were kept once, and these twice
  pub record ArePassed (edges kept : List Edge) (once twice : List Kind) : Type 0 where
    pub first_two : AreFirstTwo excused edges kept
    pub each_once : (kind : Kind) → IsMember once kind → HasOne kept kind
    pub each_twice : (kind : Kind) → IsMember twice kind → HasTwo excused kept kind

  pub none_passed : (kept : List Edge) (once twice : List Kind) → kept ≡ [] → once ≡ [] → twice ≡ [] → ArePassed [] kept once twice
  none_passed kept once twice kept_is once_is twice_is =
      rw (kept_is, once_is, twice_is) (record { first_two = all_kept excused []; each_once = λ kind member. cc; each_twice = λ kind member. cc })

  module _ (edges kept : List Edge) (once twice : List Kind) (h : ArePassed edges kept once twice) (x : Edge) (kind : Kind) (of : kind ≡ kind_of excused x) where
    still_once : (other : Kind) → IsMember once other → HasOne (kept ++ x ∷ []) other
    still_once other member = (let one = h.each_once other member in (one.0, still_of_kind kept x other one.0 one.1))

    first_pushed : ArePassed (edges ++ x ∷ []) (kept ++ x ∷ []) (once ++ kind ∷ []) twice
    first_pushed = record {
      first_two = first_two_push edges kept h.first_two x;
      each_once = λ other member. elim (push_cases once kind member.0 other member.1) [
        | inl before ↦ still_once other (member.0, before)
        | inr last ↦ (length kept, last_of_kind kept x other (sym of ∙ last.1))
      ];
      each_twice = λ other member. still_two kept x other (h.each_twice other member);
    }

    second_pushed : IsMember once kind → ArePassed (edges ++ x ∷ []) (kept ++ x ∷ []) once (twice ++ kind ∷ [])
    second_pushed known = record {
      first_two = first_two_push edges kept h.first_two x;
      each_once = still_once;
      each_twice = λ other member. elim (push_cases twice kind member.0 other member.1) [
        | inl before ↦ still_two kept x other (h.each_twice other (member.0, before))
        | inr last ↦ now_two kept x other (sym of ∙ last.1) (subst (HasOne kept) last.1 (h.each_once kind known))
      ];
    }

    -- a step of the loop: the first edge of its kind
    passed_first : (kept' : List Edge) (once' twice' : List Kind) → kept' ≡ kept ++ x ∷ [] → once' ≡ once ++ kind ∷ [] → twice' ≡ twice → ArePassed (edges ++ x ∷ []) kept' once' twice'
    passed_first kept' once' twice' kept_is once_is twice_is = rw (kept_is, once_is, twice_is) first_pushed

    -- the second
    passed_second : IsMember once kind → (kept' : List Edge) (once' twice' : List Kind) → kept' ≡ kept ++ x ∷ [] → once' ≡ once → twice' ≡ twice ++ kind ∷ [] → ArePassed (edges ++ x ∷ []) kept' once' twice'
    passed_second known kept' once' twice' kept_is once_is twice_is = rw (kept_is, once_is, twice_is) (second_pushed known)

    -- one more, which is left out
    passed_further : IsMember twice kind → (once' twice' : List Kind) → once' ≡ once → twice' ≡ twice → ArePassed (edges ++ x ∷ []) kept once' twice'
    passed_further known once' twice' once_is twice_is = rw (once_is, twice_is) (record {
      first_two = first_two_left edges kept h.first_two x (subst (HasTwo excused kept) of (h.each_twice kind known));
      each_once = h.each_once;
      each_twice = h.each_twice;
    })

    -- a step of the loop, by how the kind of the edge was counted
    pub passed_kept : (added : Bool) (kept' : List Edge) (once' twice' : List Kind) → IsCounted kind once twice once' twice' added → added ≡ true → kept' ≡ kept ++ x ∷ [] → ArePassed (edges ++ x ∷ []) kept' once' twice'
    passed_kept added kept' once' twice' counted is kept_is = elim counted [
      | inl first ↦ passed_first kept' once' twice' kept_is first.1 first.2
      | inr other ↦ elim other [
        | inl second ↦ passed_second second.1 kept' once' twice' kept_is second.2 second.3
        | inr further ↦ absurd (let wrong : true ≡ false = sym is ∙ further.0 in cc)
      ]
    ]

    pub passed_left : (added : Bool) (once' twice' : List Kind) → IsCounted kind once twice once' twice' added → added ≡ false → ArePassed (edges ++ x ∷ []) kept once' twice'
    passed_left added once' twice' counted is = elim counted [
      | inl first ↦ absurd (let wrong : false ≡ true = sym is ∙ first.0 in cc)
      | inr other ↦ elim other [
        | inl second ↦ absurd (let wrong : false ≡ true = sym is ∙ second.0 in cc)
        | inr further ↦ passed_further further.1 once' twice' further.2 further.3
      ]
    ]

-- ---- Counting a kind

module _ {K : Type 0} (once once' twice twice' : List K) (kind : K) where
  pub counted_once : (added : Bool) → added ≡ true → once' ≡ (if added then once ++ kind ∷ [] else once) → IsCounted kind once twice once' twice true
  counted_once true new is = inl (refl, is, refl)
  counted_once false new is = cc

  pub counted_again : (first second : Bool) → first ≡ false → once' ≡ (if first then once ++ kind ∷ [] else once) → IsMember once kind → (second ≡ false → IsMember twice kind)
      → twice' ≡ (if second then twice ++ kind ∷ [] else twice) → IsCounted kind once twice once' twice' second
  counted_again true second known once_is one two twice_is = cc
  counted_again false true known once_is one two twice_is = inr (inl (refl, one, once_is, twice_is))
  counted_again false false known once_is one two twice_is = inr (inr (refl, two refl, once_is, twice_is))

-- a kind that is counted by the number of its cells is counted with its cells
module _ (cells : List (List ℕ)) (kind : NumberKind) (once twice once' twice' : List NumberKind) where
  pushed : (kinds kinds' : List NumberKind) → kinds' ≡ kinds ++ kind ∷ [] → map (kind_with cells) kinds' ≡ map (kind_with cells) kinds ++ kind_with cells kind ∷ []
  pushed kinds kinds' is = ap (map (kind_with cells)) is ∙ map-append (kind_with cells) kinds (kind ∷ [])

  known : (kinds : List NumberKind) → IsMember kinds kind → IsMember (map (kind_with cells) kinds) (kind_with cells kind)
  known kinds member = (member.0, mapped_at (kind_with cells) kinds member.0 kind member.1)

  pub counted_with : (added : Bool) → IsCounted kind once twice once' twice' added
      → IsCounted (kind_with cells kind) (map (kind_with cells) once) (map (kind_with cells) twice) (map (kind_with cells) once') (map (kind_with cells) twice') added
  counted_with added counted = elim counted [
    | inl first ↦ inl (first.0, pushed once once' first.1, ap (map (kind_with cells)) first.2)
    | inr other ↦ elim other [
      | inl second ↦ inr (inl (second.0, known once second.1, ap (map (kind_with cells)) second.2, pushed twice twice' second.3))
      | inr further ↦ inr (inr (further.0, known twice further.1, ap (map (kind_with cells)) further.2, ap (map (kind_with cells)) further.3))
    ]
  ]

-- one more edge, by the number of its cells
module _ (excused : Excused) (cells : List (List ℕ)) (edges kept : List ListedEdge) (once twice : List NumberKind) (h : ArePassed excused (edges_with cells edges) (edges_with cells kept) (map (kind_with cells) once) (map (kind_with cells) twice)) (x : ListedEdge) where
  pub passed_kept_with : (added : Bool) (kept' : List ListedEdge) (once' twice' : List NumberKind) → IsCounted (number_kind excused x) once twice once' twice' added → added ≡ true → kept' ≡ kept ++ x ∷ []
      → ArePassed excused (edges_with cells (edges ++ x ∷ [])) (edges_with cells kept') (map (kind_with cells) once') (map (kind_with cells) twice')
  passed_kept_with added kept' once' twice' counted is kept_is =
      subst (λ (l : List Edge). ArePassed excused l (edges_with cells kept') (map (kind_with cells) once') (map (kind_with cells) twice')) (sym (map-append (edge_of cells) edges (x ∷ [])))
      (passed_kept excused (edges_with cells edges) (edges_with cells kept) (map (kind_with cells) once) (map (kind_with cells) twice) h (edge_of cells x) (kind_with cells (number_kind excused x)) refl added (edges_with cells kept') (map (kind_with cells) once') (map (kind_with cells) twice')
      (counted_with cells (number_kind excused x) once twice once' twice' added counted) is (ap (edges_with cells) kept_is ∙ map-append (edge_of cells) kept (x ∷ [])))

  pub passed_left_with : (added : Bool) (once' twice' : List NumberKind) → IsCounted (number_kind excused x) once twice once' twice' added → added ≡ false
      → ArePassed excused (edges_with cells (edges ++ x ∷ [])) (edges_with cells kept) (map (kind_with cells) once') (map (kind_with cells) twice')
  passed_left_with added once' twice' counted is =
      subst (λ (l : List Edge). ArePassed excused l (edges_with cells kept) (map (kind_with cells) once') (map (kind_with cells) twice')) (sym (map-append (edge_of cells) edges (x ∷ [])))
      (passed_left excused (edges_with cells edges) (edges_with cells kept) (map (kind_with cells) once) (map (kind_with cells) twice) h (edge_of cells x) (kind_with cells (number_kind excused x)) refl added (map (kind_with cells) once') (map (kind_with cells) twice')
      (counted_with cells (number_kind excused x) once twice once' twice' added counted) is)

pub first_taken : (edges : List ListedEdge) (k : ℕ) (d : ListedEdge) → k < length edges → take (k + 1) edges ≡ take k edges ++ get_or edges k d ∷ []
first_taken edges k d within = ap (λ m. take m edges) (add-one k) ∙ take-suc edges k d within

-- those that are kept are among the edges
pub only_more : (edges kept : List ListedEdge) (k : ℕ) (x : ListedEdge) → slice_get edges k ≡ Some x → ((place : ℕ) (e : ListedEdge) → slice_get kept place ≡ Some e → IsMember edges e)
    → (place : ℕ) (e : ListedEdge) → slice_get (kept ++ x ∷ []) place ≡ Some e → IsMember edges e
only_more edges kept k x at only place e there = elim (push_cases kept x place e there) [
  | inl before ↦ only place e before
  | inr last ↦ (k, at ∙ ap (λ (z : ListedEdge). Some z) last.1)
]
