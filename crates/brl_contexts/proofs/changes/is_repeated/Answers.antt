use Rattle.std.proofs.Common.{◌≡◌, ◌≢◌, ◌∙◌, ℕ, ◌-◌, ◌<◌, ◌≤◌, false, true, List, None, Option, Some, ap, arith, get_or, inl, inr, length, nat_eq, refl, slice_get, subst, sym}
use Rattle.std.specs.Cmp.{nat_eq_equiv}
use Rattle.std.specs.Option.{option_eq}
use Rattle.std.proofs.lemmas.Bool.{cases_eq}
use Rattle.std.proofs.lemmas.Bool.Decides.{eqb_tells}
use Rattle.std.proofs.lemmas.Option.{get_or_from_slice_get}
use Rattle.brl_contexts.specs.Changes.{AreAlike, DoAscend, IsRepeated}
use Rattle.brl_contexts.specs.declared.changes.Change.{Change}
use Rattle.brl_contexts.specs.declared.forms.Forms.{Forms}
use Rattle.brl_contexts.proofs.changes.is_repeated.Goals as goal
use Rattle.brl_contexts.proofs.changes.is_repeated.Goals.{else-eq-via-then-eq+else-are_alike, else-eq-via-else-eq}
use Rattle.brl_pairs.specs.declared.edge.ListedEdge.{ListedEdge}
use Rattle.brl_pairs.proofs.Lists.{inside, read_at, same_place}

-- the test whether a change leads to a state
is_next : (o : Option ℕ) (n : ℕ) → option_eq nat_eq o (Some n) ≡ true → o ≡ Some n
is_next None n e = cc
is_next (Some k) n e = elim (eqb_tells k n) [ inl same ↦ ap Some same.1 | inr other ↦ (let differ = other.0 in cc) ]

from_next : (o : Option ℕ) (n : ℕ) → o ≡ Some n → option_eq nat_eq o (Some n) ≡ true
from_next o n e = ap (λ (p : Option ℕ). option_eq nat_eq p (Some n)) e ∙ nat_eq_equiv.refl n

-- the change before those that were read
module _ (forms : Forms) (form : ℕ) (changes : List Change) (within : form < length forms.edges.items) (asc : DoAscend forms form changes)
    (left : ℕ) (low : 0 < left) (high : left ≤ length changes) where
  abbrev here : Change
  here = get_or changes (left - 1) (record { form = 0; next = None })

  here_at : slice_get changes (left - 1) ≡ Some here
  here_at =
      let own = inside changes (left - 1) (omega (arith, low, high)) in
      own.1 ∙ ap Some (sym (get_or_from_slice_get changes (left - 1) own.0 (record { form = 0; next = None }) own.1))

  here_less : here.form < length forms.edges.items
  here_less = (let before = asc.within (left - 1) here here_at in omega (arith, within, before))

  module _ (cells : List (List ℕ)) (next : ℕ) (none : (r : IsRepeated cells forms form next changes) → r.place < left) where
    -- the changes from there on are of its rule or a greater one
    no_more : (e f : ListedEdge) → e ≡ get_or forms.edges.items here.form e → f ≡ get_or forms.edges.items form f → e.rule ≢ f.rule → IsRepeated cells forms form next changes → ⊥
    no_more e f e_is f_is differ r =
        let e_at = read_at forms.edges.items forms.edges.items here.form e refl here_less e_is in
        let f_at = read_at forms.edges.items forms.edges.items form f refl within f_is in
        let before = none r in
        let up = asc.rules r.place (left - 1) r.change here r.alike.first e (omega (arith, before)) r.there here_at r.alike.first_at e_at in
        let own = asc.own (left - 1) here e f here_at e_at f_at in
        let same : r.alike.second.rule ≡ f.rule = ap (λ (x : ListedEdge). x.rule) (same_place forms.edges.items form r.alike.second f r.alike.second_at f_at) in
        let rule = r.alike.rule in
        differ (omega (arith, up, own, same, rule))

    not_here : (here.next ≡ Some next → AreAlike cells forms here.form form → ⊥) → (r : IsRepeated cells forms form next changes) → r.place < left - 1
    not_here other_step r = elim (cases_eq r.place (left - 1)) [
      | inl same ↦ (let is : here ≡ r.change = same_place changes (left - 1) here r.change here_at (subst (λ k. slice_get changes k ≡ Some r.change) same r.there) in
          absurd (other_step (ap (λ (d : Change). d.next) is ∙ r.leads) (subst (λ (d : Change). AreAlike cells forms d.form form) (sym is) r.alike)))
      | inr other ↦ (let before = none r in omega (arith, before, other))
    ]

pub returns-then-index-rule : goal.returns-then-index-rule
returns-then-index-rule c = (
  λ wrong. absurd (let no : false ≡ true = wrong in cc),
  λ r. absurd (no_more c.args.forms.now c.args.form c.args.changes.now c.requires.within c.requires.ascending c.loop-left.left c.loop-left-test.true c.loop-left.invariant.within
      c.args.cells.now c.args.next c.loop-left.invariant.none c.index-in-loop-left.result.now c.index.result.now c.index-in-loop-left.ensures c.index.ensures c.if-index-rule.true r),
)

pub are_alike-requires-clause-one : goal.are_alike-requires-clause-one
are_alike-requires-clause-one c = here_less c.args.forms.now c.args.form c.args.changes.now c.requires.within c.requires.ascending c.loop-left.left c.loop-left-test.true c.loop-left.invariant.within

pub returns-then-are_alike : goal.returns-then-are_alike
returns-then-are_alike c = (
  λ yes. record {
    place = c.loop-left.left - 1;
    change = here c.args.forms.now c.args.form c.args.changes.now c.requires.within c.requires.ascending c.loop-left.left c.loop-left-test.true c.loop-left.invariant.within;
    there = here_at c.args.forms.now c.args.form c.args.changes.now c.requires.within c.requires.ascending c.loop-left.left c.loop-left-test.true c.loop-left.invariant.within;
    leads = is_next (get_or c.args.changes.now (c.loop-left.left - 1) (record { form = 0; next = None })).next c.args.next (sym c.eq.ensures ∙ c.if-eq.true);
    alike = c.are_alike.ensures.0 c.if-are_alike.true;
  },
  λ r. refl,
)

pub loop-left-preserved : goal.loop-left-preserved
loop-left-preserved c = record {
  within = (let within = c.loop-left.invariant.within in omega (arith, within));
  none = not_here c.args.forms.now c.args.form c.args.changes.now c.requires.within c.requires.ascending c.loop-left.left c.loop-left-test.true c.loop-left.invariant.within
      c.args.cells.now c.args.next c.loop-left.invariant.none
      (λ leads alike. elim c.else-eq.branch [
        | else-eq-via-then-eq+else-are_alike w ↦ (let yes : w.are_alike.result ≡ true = w.are_alike.ensures.1 alike in let wrong = w.if-are_alike.false in absurd (let no : true ≡ false = sym yes ∙ wrong in cc))
        | else-eq-via-else-eq w ↦ (let yes : c.eq.result ≡ true = c.eq.ensures ∙ from_next (get_or c.args.changes.now (c.loop-left.left - 1) (record { form = 0; next = None })).next c.args.next leads in
            let wrong = w.if-eq.false in absurd (let no : true ≡ false = sym yes ∙ wrong in cc))
      ]);
}

pub returns : goal.returns
returns c = (
  λ wrong. absurd (let no : false ≡ true = wrong in cc),
  λ r. (let none = c.loop-left.invariant.none r in let end = c.loop-left-test.false in absurd (omega (arith, none, end))),
)
