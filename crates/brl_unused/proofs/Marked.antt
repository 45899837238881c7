-- Marks are set one by one: those of live states, and those of the rules of edges that lead there.
use Rattle.std.proofs.Common.{◌≡◌, ℕ, zero, suc, ◌+◌, ◌<◌, ◌≤◌, Bool, IsTrue, true, false, not, cond, List, [], ◌∷◌, ◌++◌, length, take, set, refl, ap, sym, subst, ◌∙◌, arith, Some, Contains, slice_get, ◌⊎◌, ◌↔◌, inl, inr}
use Rattle.std.proofs.Math.ListN.{length-set}
use Rattle.std.proofs.lemmas.List.Elements.{Contains-append_left, Contains-push, Contains-push_cases}
use Rattle.std.proofs.lemmas.List.Sums.{sum_by-cons}
use Rattle.std.proofs.lemmas.Option.{slice_get_within}
use Rattle.brl_contexts.specs.Contexts.{edges_by}
use Rattle.brl_contexts.specs.declared.contexts.Expanded.{Expanded}
use Rattle.brl_pairs.specs.declared.edge.ListedEdge.{ListedEdge}
use Rattle.brl_pairs.proofs.Lists.{push_cases, same_place, set_cases, take-got, three_ways}
use Rattle.brl_pairs.proofs.Numbered.{contained}
use Rattle.brl_unused.specs.Graph.{AreAscending, AreLive, HasEdge, IsLive, final, step}
use Rattle.brl_unused.specs.Marking.{AreMarked, AreMarkedBy, IsClosed, LeadToLive, LeadsOn, MarksMore, Takes, unmarked}
use Rattle.brl_unused.specs.declared.found.FoundStates.{FoundStates}

-- ---- One mark

pub mark-there : (live : List Bool) (i : ℕ) → i < length live → slice_get (set live i true) i ≡ Some true
mark-there [] i h = absurd (omega arith)
mark-there (b ∷ bs) zero h = refl
mark-there (b ∷ bs) (suc i) h = mark-there bs i (omega (arith, h))

pub mark-kept : (live : List Bool) (i s : ℕ) → slice_get live s ≡ Some true → slice_get (set live i true) s ≡ Some true
mark-kept [] i s h = cc
mark-kept (b ∷ bs) zero zero h = refl
mark-kept (b ∷ bs) zero (suc s) h = h
mark-kept (b ∷ bs) (suc i) zero h = h
mark-kept (b ∷ bs) (suc i) (suc s) h = mark-kept bs i s h

pub mark-fewer : (live : List Bool) (i : ℕ) → slice_get live i ≡ Some false → unmarked (set live i true) + 1 ≡ unmarked live
mark-fewer [] i h = cc
mark-fewer (b ∷ bs) zero h =
    let is : b ≡ false = cc in
    let old = sum_by-cons (λ x. cond (not x) 1 0) b bs in
    let new = sum_by-cons (λ x. cond (not x) 1 0) true bs in
    let one : cond (not b) 1 0 ≡ 1 = ap one_if is in
    omega (arith, old, new, one)
  where
    one_if : Bool → ℕ
    one_if x = cond (not x) 1 0
mark-fewer (b ∷ bs) (suc i) h =
    let more = mark-fewer bs i h in
    let old = sum_by-cons (λ x. cond (not x) 1 0) b bs in
    let new = sum_by-cons (λ x. cond (not x) 1 0) b (set bs i true) in
    omega (arith, more, old, new)

pub no_member : (x : ℕ) → Contains [] x → ⊥
no_member x h = omega (arith, h.1)

pub not_both : (b : Bool) → b ≡ false → Some b ≡ Some true → ⊥
not_both b is_false is_true = cc

-- ---- Edges that lead to live states

-- none of the edges so far leads to a live state, and the next one doesn't
pub none_more : (edges : List ListedEdge) (live : List Bool) (i : ℕ) (e : ListedEdge) → slice_get edges i ≡ Some e → (LeadToLive (take i edges) live → ⊥) → (slice_get live e.next ≡ Some true → ⊥)
    → LeadToLive (take (i + 1) edges) live → ⊥
none_more edges live i e at none not_this lead =
    elim (Contains-push_cases (take i edges) e lead.edge (subst (λ (xs : List ListedEdge). Contains xs lead.edge) (take-got edges i e at) lead.one)) [
      | inl k ↦ none (record { edge = lead.edge; one = k; is_live = lead.is_live })
      | inr same ↦ not_this (subst (λ (x : ListedEdge). slice_get live x.next ≡ Some true) (sym same) lead.is_live)
    ]

module _ {S D : Type 0} (f : FoundStates S D) (place : ℕ) (own : Expanded) (at : slice_get f.expanded.items place ≡ Some own) where
  -- an edge of the state at this place is one of these
  pub one_of : (e : ListedEdge) → HasEdge f place e → Contains (edges_by f.contexts own) e
  one_of e has = subst (λ (o : Expanded). Contains (edges_by f.contexts o) e) (same_place f.expanded.items place has.own own has.at at) has.one

  pub leads_by : (live : List Bool) → LeadToLive (edges_by f.contexts own) live ↔ LeadsOn f live place
  leads_by live = (
    λ l. record { edge = l.edge; has = record { own = own; at = at; one = l.one }; is_live = l.is_live },
    λ l. record { edge = l.edge; one = one_of l.edge l.has; is_live = l.is_live },
  )

-- ---- Live states

module _ {S D : Type 0} (ends : List Bool) (f : FoundStates S D) (live : List Bool) (marked : AreMarked ends f live) where
  -- a state is marked of which an edge leads to a marked one
  pub marked_more : (place number : ℕ) → slice_get f.order.items place ≡ Some number → LeadsOn f live place → AreMarked ends f (set live number true)
  marked_more place number at leads = record {
    count = length-set live number true ∙ marked.count;
    finals = λ n h. mark-kept live number n (marked.finals n h);
    live_ones = λ n h. elim (set_cases live number true n true h) [
      | inl k ↦ subst (IsLive ends f) (sym k.0) (step at leads.has (marked.live_ones leads.edge.next leads.is_live))
      | inr k ↦ marked.live_ones n k.1
    ];
  }

  module _ (closed : IsClosed f live) where
    is_marked : (number : ℕ) → IsLive ends f number → slice_get live number ≡ Some true
    is_marked number (final h) = marked.finals number h
    is_marked number (step {place} {number = n} {e} at has on) = closed place n at (record { edge = e; has = has; is_live = is_marked e.next on })

    pub all_live : AreLive ends f live
    all_live = record { count = marked.count; each = λ number. (marked.live_ones number, is_marked number) }

-- a round that marks more leaves fewer, and after another there is none
pub smaller : (more again : Bool) (new old : ℕ) → (IsTrue more → new < old) → new ≤ old → IsTrue again → new + cond more 1 0 < old + cond again 1 0
smaller true true new old fewer most is = (let less = fewer refl in omega (arith, less))
smaller false true new old fewer most is = omega (arith, most)
smaller true false new old fewer most is = cc
smaller false false new old fewer most is = cc

-- at first the final states are marked
pub marked_start : {S D : Type 0} (ends : List Bool) (f : FoundStates S D) → AreMarked ends f ends
marked_start ends f = record { count = refl; finals = λ n h. h; live_ones = λ n h. final h }

-- ---- The rules of some edges

module _ (edges : List ListedEdge) (live old marks : List Bool) (are : MarksMore edges live old marks) (e : ListedEdge) where
  takes_cases : (rule : ℕ) → Takes (edges ++ e ∷ []) live rule → Takes edges live rule ⊎ ((e.rule ≡ rule) × (slice_get live e.next ≡ Some true))
  takes_cases rule h = elim (Contains-push_cases edges e h.edge h.one) [
    | inl k ↦ inl (record { edge = h.edge; one = k; of_rule = h.of_rule; is_live = h.is_live })
    | inr same ↦ inr (ap (λ (x : ListedEdge). x.rule) same ∙ h.of_rule, subst (λ (x : ListedEdge). slice_get live x.next ≡ Some true) (sym same) h.is_live)
  ]

  more : (rule : ℕ) → (slice_get old rule ≡ Some true) ⊎ Takes edges live rule → (slice_get old rule ≡ Some true) ⊎ Takes (edges ++ e ∷ []) live rule
  more rule (inl h) = inl h
  more rule (inr h) = inr (record { edge = h.edge; one = Contains-append_left edges (e ∷ []) h.edge h.one; of_rule = h.of_rule; is_live = h.is_live })

  -- its rule is marked
  pub mark-rule : e.rule < length marks → slice_get live e.next ≡ Some true → MarksMore (edges ++ e ∷ []) live old (set marks e.rule true)
  mark-rule low is_live = record {
    count = length-set marks e.rule true ∙ are.count;
    each = λ rule within. (
      λ at. elim (set_cases marks e.rule true rule true at) [
        | inl k ↦ inr (record { edge = e; one = Contains-push edges e; of_rule = sym k.0; is_live = is_live })
        | inr k ↦ more rule ((are.each rule within).0 k.1)
      ],
      λ h. elim h [
        | inl before ↦ mark-kept marks e.rule rule ((are.each rule within).1 (inl before))
        | inr takes ↦ elim (takes_cases rule takes) [
          | inl k ↦ mark-kept marks e.rule rule ((are.each rule within).1 (inr k))
          | inr k ↦ subst (λ (n : ℕ). slice_get (set marks e.rule true) n ≡ Some true) k.0 (mark-there marks e.rule low)
        ]
      ],
    );
  }

  -- nothing is marked
  pub mark-nothing : (e.rule < length marks → slice_get live e.next ≡ Some true → ⊥) → MarksMore (edges ++ e ∷ []) live old marks
  mark-nothing other = record {
    count = are.count;
    each = λ rule within. (
      λ at. more rule ((are.each rule within).0 at),
      λ h. elim h [
        | inl before ↦ (are.each rule within).1 (inl before)
        | inr takes ↦ elim (takes_cases rule takes) [
          | inl k ↦ (are.each rule within).1 (inr k)
          | inr k ↦ absurd (other (let same = k.0 in let size = are.count in omega (arith, same, within, size)) k.1)
        ]
      ],
    );
  }

-- at first nothing more is marked
pub marks_same : (live marks : List Bool) → MarksMore [] live marks marks
marks_same live marks = record { count = refl; each = λ rule within. (λ h. inl h, λ h. elim h [ inl before ↦ before | inr takes ↦ absurd (omega (arith, takes.one.1)) ]) }

-- ---- The rules of all states

-- those of one state more
module _ {S D : Type 0} (f : FoundStates S D) (live : List Bool) (end rules : ℕ) (own : Expanded) (at : slice_get f.expanded.items end ≡ Some own) (old : List Bool) (are : AreMarkedBy f live end rules old) where
  last_or_below : (place : ℕ) → place < end + 1 → (place < end) ⊎ (place ≡ end)
  last_or_below place h = elim (three_ways place end) [ inl k ↦ inl k | inr k ↦ elim k [ inl e ↦ inr e | inr g ↦ absurd (omega (arith, h, g)) ] ]

  pub marked_next : (new : List Bool) → MarksMore (edges_by f.contexts own) live old new → AreMarkedBy f live (end + 1) rules new
  marked_next new marks = record {
    count = marks.count ∙ are.count;
    each = λ rule within. (
      λ h. elim ((marks.each rule (low rule within)).0 h) [
        | inl before ↦ (let b = (are.each rule within).0 before in record { place = b.place; low = (let less = b.low in omega (arith, less)); edge = b.edge; has = b.has; of_rule = b.of_rule; is_live = b.is_live })
        | inr t ↦ record { place = end; low = omega arith; edge = t.edge; has = record { own = own; at = at; one = t.one }; of_rule = t.of_rule; is_live = t.is_live }
      ],
      λ b. (marks.each rule (low rule within)).1 (elim (last_or_below b.place b.low) [
        | inl less ↦ inl ((are.each rule within).1 (record { place = b.place; low = less; edge = b.edge; has = b.has; of_rule = b.of_rule; is_live = b.is_live }))
        | inr same ↦ inr (record { edge = b.edge; one = one_of f end own at b.edge (subst (λ (k : ℕ). HasEdge f k b.edge) same b.has); of_rule = b.of_rule; is_live = b.is_live })
      ]),
    );
  }
    where
      low : (rule : ℕ) → rule < rules → rule < length old
      low rule within = (let size = are.count in omega (arith, within, size))

-- ---- The places that have a mark

pub places-none : (marks : List Bool) (mark : Bool) (place : ℕ) → Contains [] place ↔ ((place < 0) × (slice_get marks place ≡ Some mark))
places-none marks mark place = (λ h. absurd (no_member place h), λ h. absurd (omega (arith, h.0)))

module _ (marks : List Bool) (mark : Bool) (places : List ℕ) (next : ℕ) (are : (place : ℕ) → Contains places place ↔ ((place < next) × (slice_get marks place ≡ Some mark))) where
  last : (place : ℕ) → place < next + 1 → (place < next) ⊎ (place ≡ next)
  last place h = elim (three_ways place next) [ inl k ↦ inl k | inr k ↦ elim k [ inl e ↦ inr e | inr g ↦ absurd (omega (arith, h, g)) ] ]

  pub places-more : slice_get marks next ≡ Some mark → (place : ℕ) → Contains (places ++ next ∷ []) place ↔ ((place < next + 1) × (slice_get marks place ≡ Some mark))
  places-more at place = (
    λ h. elim (Contains-push_cases places next place h) [
      | inl k ↦ (let old = (are place).0 k in (omega (arith, old.0), old.1))
      | inr e ↦ (omega (arith, e), subst (λ n. slice_get marks n ≡ Some mark) e at)
    ],
    λ h. elim (last place h.0) [
      | inl k ↦ Contains-append_left places (next ∷ []) place ((are place).1 (k, h.1))
      | inr e ↦ subst (λ n. Contains (places ++ next ∷ []) n) (sym e) (Contains-push places next)
    ],
  )

  pub places-again : (slice_get marks next ≡ Some mark → ⊥) → (place : ℕ) → Contains places place ↔ ((place < next + 1) × (slice_get marks place ≡ Some mark))
  places-again other place = (
    λ h. (let old = (are place).0 h in (omega (arith, old.0), old.1)),
    λ h. elim (last place h.0) [
      | inl k ↦ (are place).1 (k, h.1)
      | inr e ↦ absurd (other (subst (λ n. slice_get marks n ≡ Some mark) e h.1))
    ],
  )

  pub ascending-more : AreAscending places → AreAscending (places ++ next ∷ [])
  ascending-more ascending i j a b less a_at b_at = elim (push_cases places next j b b_at) [
    | inl early ↦ elim (push_cases places next i a a_at) [
      | inl first ↦ ascending i j a b less first early
      | inr end ↦ absurd (let place = end.0 in let within = slice_get_within places j b early in omega (arith, less, place, within))
    ]
    | inr late ↦ elim (push_cases places next i a a_at) [
      | inl first ↦ (let low = ((are a).0 (contained places i a first)).0 in let same = late.1 in omega (arith, low, same))
      | inr end ↦ absurd (let place = end.0 in let other = late.0 in omega (arith, less, place, other))
    ]
  ]

-- all places were read
pub places-all : (marks : List Bool) (mark : Bool) (places : List ℕ) (next : ℕ) → length marks ≤ next → ((place : ℕ) → Contains places place ↔ ((place < next) × (slice_get marks place ≡ Some mark)))
    → (place : ℕ) → Contains places place ↔ (slice_get marks place ≡ Some mark)
places-all marks mark places next all are place = (λ h. ((are place).0 h).1, λ h. (are place).1 (let within = slice_get_within marks place mark h in (omega (arith, all, within), h)))
