use Rattle.std.proofs.Common.{◌≡◌, ◌∙◌, ℕ, suc, All, List, Some, ap, arith, inl, length, slice_get, subst, sym}
use Rattle.brl_clashes.proofs.Found.{none_of}
use Rattle.brl_clashes.proofs.Verdicts.{nothing_more}
use Rattle.brl_clashes.specs.Finding.{IfKnown}
use Rattle.brl_clashes.specs.Kinds.{section_kinds}
use Rattle.brl_clashes.specs.Showing.{asked_of}
use Rattle.brl_clashes.specs.declared.kind.Kind.{Kind}
use Rattle.brl_search.specs.Clashes.{AreClashes, IsRuleClash}
use Rattle.brl_clashes.proofs.sections.find_section.Goals.{else-none_before, then-none_before+then-place-gt0+in_ok-find_all}
use Rattle.brl_clashes.proofs.sections.find_section.Goals as goal

-- the last section leaves out no more than is asked for
pub find_all-requires-clause-known : goal.find_all-requires-clause-known
find_all-requires-clause-known g c =
    let asked = c.args.plan.asked in
    let t = asked.table.now in
    let left_out = asked.left_out.now in
    let many : length (section_kinds t left_out) ≡ suc c.args.place = (let count = ap length c.requires.plan.kinds in omega (arith, count, c.if-place-plan.true)) in
    subst (λ (lo : List ℕ). All (IsRuleClash lo t) c.args.known.items) (nothing_more t left_out c.args.place many) c.requires.known.each

-- where the list of all texts is found first, it is known
pub found_at-requires-clause-none : goal.found_at-requires-clause-none
found_at-requires-clause-none g c none =
    let asked = asked_of c.args.plan.asked in
    let all : IfKnown asked c.if-none_before.all = elim c.if-none_before.branch [
      | then-none_before+then-place-gt0+in_ok-find_all w ↦ subst (IfKnown asked) (sym w.all-is) w.in_ok-find_all.ensures
      | else-none_before w ↦ subst (IfKnown asked) (sym w.all-is) c.requires.all
    ] in
    none_of asked c.if-none_before.all all (sym c.is_none-none.ensures ∙ none)

-- so it is the list of all texts
pub returns-then-place-plan-clause-section : goal.returns-then-place-plan-clause-section
returns-then-place-plan-clause-section g c =
    let asked = c.args.plan.asked in
    let t = asked.table.now in
    let left_out = asked.left_out.now in
    let kinds = c.requires.plan.kinds in
    let many : length (section_kinds t left_out) ≡ suc c.args.place = (let count = ap length kinds in omega (arith, count, c.if-place-plan.true)) in
    record {
      kind = subst (λ (ks : List Kind). slice_get ks c.args.place ≡ Some c.kind_at-kind.result) kinds c.kind_at-kind.ensures;
      clashes = inl (subst (λ (lo : List ℕ). AreClashes lo t asked.limit c.in_ok-found.found) (sym (nothing_more t left_out c.args.place many)) c.in_ok-found.ensures);
      all = λ last. c.in_ok-found.ensures;
    }
