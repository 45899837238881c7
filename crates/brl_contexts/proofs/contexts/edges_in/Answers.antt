use Rattle.std.proofs.Common.{◌≡◌, ◌≢◌, ◌∙◌, ℕ, ◌+◌, ◌<◌, ◌≤◌, ◌++◌, zero, suc, Bool, cond, nat_eq, false, true, List, [], ◌∷◌, None, Option, Some, ap, append-nil, arith, flat_map, get_or, inl, inr, is_some, length, option_map, refl, slice_get, subst, sym}
use Rattle.std.specs.Cmp.{nat_eq_equiv}
use Rattle.std.specs.List.{range_with_len}
use Rattle.std.proofs.lemmas.Bool.Decides.{eqb_tells}
use Rattle.std.proofs.lemmas.Grind.{flat_map-append}
use Rattle.std.proofs.lemmas.List.{get_or_default}
use Rattle.std.proofs.lemmas.Option.{slice_get_within}
use Rattle.brl_contexts.specs.Changes.{change_of}
use Rattle.brl_contexts.specs.Contexts.{IsChangeAt, IsWithinForms, changed, edge_in, no_edge}
use Rattle.brl_contexts.specs.declared.changes.Change.{Change}
use Rattle.brl_contexts.specs.declared.contexts.ByContext.{ByContext}
use Rattle.brl_contexts.specs.declared.forms.Forms.{Forms}
use Rattle.brl_contexts.proofs.Found.{counting_on}
use Rattle.brl_contexts.proofs.contexts.edges_in.Goals as goal
use Rattle.brl_contexts.proofs.contexts.edges_in.Goals.{then-is_some, else-is_some, then-index+in_ok-push_edge, else-index}
use Rattle.brl_pairs.specs.declared.edge.ListedEdge.{ListedEdge}
use Rattle.brl_pairs.proofs.Lists.{inside, read_at, same_place, three_ways}

-- ---- The change of a form

another : (a b : ℕ) → a ≢ b → nat_eq a b ≡ false
another a b differ = elim (eqb_tells a b) [ inl same ↦ absurd (differ same.1) | inr other ↦ other.0 ]

none_of : (changes : List Change) (form : ℕ) → ((i : ℕ) (c : Change) → slice_get changes i ≡ Some c → c.form ≢ form) → change_of changes form ≡ None
none_of [] form others = refl
none_of (c ∷ changes) form others =
    ap (λ (b : Bool). cond b (Some c.next) (change_of changes form)) (another c.form form (others 0 c refl)) ∙ none_of changes form (λ i d at. others (suc i) d at)

first_of : (changes : List Change) (form k : ℕ) (c : Change) → slice_get changes k ≡ Some c → c.form ≡ form
    → ((i : ℕ) (d : Change) → i < k → slice_get changes i ≡ Some d → d.form ≢ form) → change_of changes form ≡ Some c.next
first_of [] form k c at is before = cc
first_of (d ∷ changes) form zero c at is before =
    let same : d ≡ c = cc in
    ap (λ (b : Bool). cond b (Some d.next) (change_of changes form)) (ap (λ (x : Change). nat_eq x.form form) same ∙ ap (λ n. nat_eq n form) is ∙ nat_eq_equiv.refl form)
    ∙ ap (λ (x : Change). Some x.next) same
first_of (d ∷ changes) form (suc k) c at is before =
    ap (λ (b : Bool). cond b (Some d.next) (change_of changes form)) (another d.form form (before 0 d (omega arith) refl))
    ∙ first_of changes form k c at is (λ i x less there. before (suc i) x (omega (arith, less)) there)

-- the changes before `next` are of lesser forms, and those from there on aren't
module _ (changes : List Change) (ascending : (i j : ℕ) (c d : Change) → i < j → slice_get changes i ≡ Some c → slice_get changes j ≡ Some d → c.form < d.form)
    (next form : ℕ) (passed : (i : ℕ) (c : Change) → i < next → slice_get changes i ≡ Some c → c.form < form)
    (ahead : (i : ℕ) (c : Change) → next ≤ i → slice_get changes i ≡ Some c → form ≤ c.form) where
  -- if the change there is of another form, all from there on are of greater ones
  greater : IsChangeAt changes next form None → (i : ℕ) (c : Change) → next ≤ i → slice_get changes i ≡ Some c → form + 1 ≤ c.form
  greater another_form i c low at = elim (three_ways next i) [
    | inl before ↦ (let within = slice_get_within changes i c at in
        let own = inside changes next (omega (arith, before, within)) in
        let first = ahead next own.0 (omega arith) own.1 in
        let less = ascending next i own.0 c before own.1 at in
        omega (arith, first, less))
    | inr rest ↦ elim rest [
      | inl same ↦ elim (three_ways form c.form) [
        | inl less ↦ omega (arith, less)
        | inr others ↦ elim others [
          | inl is ↦ absurd (another_form c (subst (λ k. slice_get changes k ≡ Some c) (sym same) at) (sym is))
          | inr less ↦ absurd (let high = ahead i c low at in omega (arith, high, less))
        ]
      ]
      | inr after ↦ absurd (omega (arith, low, after))
    ]
  ]

  change_here : (o : Option Change) → IsChangeAt changes next form o → change_of changes form ≡ option_map (λ (c : Change). c.next) o
  change_here None another_form = none_of changes form (λ i c at is. elim (three_ways i next) [
    | inl before ↦ (let less = passed i c before at in omega (arith, less, is))
    | inr rest ↦ (let more = greater another_form i c (elim rest [ inl same ↦ omega (arith, same) | inr after ↦ omega (arith, after) ]) at in omega (arith, more, is))
  ])
  change_here (Some c) is = first_of changes form next c is.0 is.1 (λ i d before at same. (let less = passed i d before at in omega (arith, less, same)))

  -- after the change of the form
  one_passed : (o : Option Change) → IsChangeAt changes next form o → true ≡ is_some o → (i : ℕ) (c : Change) → i < next + 1 → slice_get changes i ≡ Some c → c.form < form + 1
  one_passed None is some i c less at = cc
  one_passed (Some d) is some i c less at = elim (three_ways i next) [
    | inl before ↦ (let low = passed i c before at in omega (arith, low))
    | inr rest ↦ elim rest [
      | inl same ↦ (let own : c ≡ d = same_place changes next c d (subst (λ k. slice_get changes k ≡ Some c) same at) is.0 in
          let form_is : c.form ≡ form = ap (λ (x : Change). x.form) own ∙ is.1 in omega (arith, form_is))
      | inr after ↦ absurd (omega (arith, less, after))
    ]
  ]

  then_ahead : (o : Option Change) → IsChangeAt changes next form o → true ≡ is_some o → (i : ℕ) (c : Change) → next + 1 ≤ i → slice_get changes i ≡ Some c → form + 1 ≤ c.form
  then_ahead None is some i c low at = cc
  then_ahead (Some d) is some i c low at = (let less = ascending next i d c (omega (arith, low)) is.0 at in let own = is.1 in omega (arith, less, own))

  then_within : (o : Option Change) → IsChangeAt changes next form o → true ≡ is_some o → next + 1 ≤ length changes
  then_within None is some = cc
  then_within (Some d) is some = (let within = slice_get_within changes next d is.0 in omega (arith, within))

  -- where it has none
  else_ahead : (o : Option Change) → IsChangeAt changes next form o → false ≡ is_some o → (i : ℕ) (c : Change) → next ≤ i → slice_get changes i ≡ Some c → form + 1 ≤ c.form
  else_ahead None is none i c low at = greater is i c low at
  else_ahead (Some d) is none i c low at = cc

-- ---- The edges of a form

-- the edges of one form more
one_more : (forms : Forms) (own : ByContext) (n : ℕ) → flat_map (edge_in forms own) (range_with_len 0 (n + 1)) ≡ flat_map (edge_in forms own) (range_with_len 0 n) ++ edge_in forms own n
one_more forms own n =
    ap (flat_map (edge_in forms own)) (counting_on 0 n ∙ ap (λ k. range_with_len 0 n ++ k ∷ []) (let e : 0 + n ≡ n = omega arith in e))
    ∙ flat_map-append (edge_in forms own) (range_with_len 0 n) (n ∷ [])
    ∙ ap (λ l. flat_map (edge_in forms own) (range_with_len 0 n) ++ l) (append-nil (edge_in forms own n))

-- by what is read
module _ (forms : Forms) (own : ByContext) (within : IsWithinForms forms own) (form : ℕ) (less : form < length forms.edges.items)
    (gate : ℕ) (gate_is : gate ≡ get_or forms.gate_of.items form gate) (opens : Bool) (opens_is : opens ≡ get_or own.opens.items gate opens) where
  gate_less : form < length forms.gate_of.items
  gate_less = (let gates = within.gates in omega (arith, less, gates))

  place_less : gate < length own.opens.items
  place_less = within.opens form gate (read_at forms.gate_of.items forms.gate_of.items form gate refl gate_less gate_is)

  opened : get_or own.opens.items (get_or forms.gate_of.items form 0) false ≡ opens
  opened =
      ap (λ k. get_or own.opens.items k false) (get_or_default forms.gate_of.items form 0 gate gate_less ∙ sym gate_is)
      ∙ get_or_default own.opens.items gate false opens place_less ∙ sym opens_is

  none_where_shut : opens ≡ false → edge_in forms own form ≡ []
  none_where_shut shut =
      ap (λ (b : Bool). cond b (changed (get_or forms.edges.items form no_edge) (change_of own.changes.items form)) []) (opened ∙ shut)

  changed_where_open : opens ≡ true → (e : ListedEdge) → e ≡ get_or forms.edges.items form e → (change : Option (Option ℕ)) → change_of own.changes.items form ≡ change → edge_in forms own form ≡ changed e change
  changed_where_open opened_it e e_is change is =
      ap (λ (b : Bool). cond b (changed (get_or forms.edges.items form no_edge) (change_of own.changes.items form)) []) (opened ∙ opened_it)
      ∙ ap (λ (x : ListedEdge). changed x (change_of own.changes.items form)) (get_or_default forms.edges.items form no_edge e less ∙ sym e_is)
      ∙ ap (changed e) is

pub loop-form-preserved : goal.loop-form-preserved
loop-form-preserved c =
    let changes = c.args.own.now.changes.items in
    let next = c.loop-form.next in
    let form = c.loop-form.form in
    let inv = c.loop-form.invariant in
    let asc = c.requires.ascending in
    let change = c.change_at-change.result in
    let is : IsChangeAt changes next form change = subst (λ (l : List Change). IsChangeAt l next form change) c.as_slice.ensures.value c.change_at-change.ensures in
    let less : form < length c.args.forms.now.edges.items = (let test = c.loop-form-test.true in let end = c.len-form-end.ensures in omega (arith, test, end)) in
    record {
      edges = elim c.if-index.branch [
        | then-index+in_ok-push_edge w ↦
            let edge = w.index-then-index.result.now in
            ap (λ (v : _). v.items) w.edges-is ∙ w.in_ok-push_edge.ensures
            ∙ ap (λ (l : List ListedEdge). l ++ changed edge (option_map (λ (d : Change). d.next) change)) inv.edges
            ∙ ap (λ (l : List ListedEdge). flat_map (edge_in c.args.forms.now c.args.own.now) (range_with_len 0 form) ++ l)
            (sym (changed_where_open c.args.forms.now c.args.own.now c.requires form less c.index.result.now c.index.ensures c.index-in-loop-form.result.now c.index-in-loop-form.ensures
            w.if-index.true edge w.index-then-index.ensures (option_map (λ (d : Change). d.next) change) (change_here changes asc next form inv.passed inv.ahead change is)))
            ∙ sym (one_more c.args.forms.now c.args.own.now form)
        | else-index w ↦
            ap (λ (v : _). v.items) w.edges-is ∙ inv.edges ∙ sym (append-nil (flat_map (edge_in c.args.forms.now c.args.own.now) (range_with_len 0 form)))
            ∙ ap (λ (l : List ListedEdge). flat_map (edge_in c.args.forms.now c.args.own.now) (range_with_len 0 form) ++ l)
            (sym (none_where_shut c.args.forms.now c.args.own.now c.requires form less c.index.result.now c.index.ensures c.index-in-loop-form.result.now c.index-in-loop-form.ensures w.if-index.false))
            ∙ sym (one_more c.args.forms.now c.args.own.now form)
      ];
      passed = elim c.if-is_some.branch [
        | then-is_some w ↦ subst (λ n. (i : ℕ) (d : Change) → i < n → slice_get changes i ≡ Some d → d.form < form + 1) (sym w.next-is)
            (one_passed changes asc next form inv.passed inv.ahead change is w.if-is_some.ensures)
        | else-is_some w ↦ (λ i d before at. let same = w.next-is in let low = inv.passed i d (omega (arith, before, same)) at in omega (arith, low))
      ];
      ahead = elim c.if-is_some.branch [
        | then-is_some w ↦ subst (λ n. (i : ℕ) (d : Change) → n ≤ i → slice_get changes i ≡ Some d → form + 1 ≤ d.form) (sym w.next-is)
            (then_ahead changes asc next form inv.passed inv.ahead change is w.if-is_some.ensures)
        | else-is_some w ↦ subst (λ n. (i : ℕ) (d : Change) → n ≤ i → slice_get changes i ≡ Some d → form + 1 ≤ d.form) (sym w.next-is)
            (else_ahead changes asc next form inv.passed inv.ahead change is w.if-is_some.ensures)
      ];
      within = elim c.if-is_some.branch [
        | then-is_some w ↦ (let same = w.next-is in let low = then_within changes asc next form inv.passed inv.ahead change is w.if-is_some.ensures in omega (arith, same, low))
        | else-is_some w ↦ (let same = w.next-is in let low = inv.within in omega (arith, same, low))
      ];
    }
