use Rattle.std.proofs.Common.{◌∙◌, ◌++◌, ◌∷◌, [], ℕ, List, ap, refl, subst, sym}
use Rattle.std.proofs.lemmas.List.{map-append}
use Rattle.brl_contexts.specs.Named.{Stays}
use Rattle.brl_contexts.proofs.Kept.{still_carried}
use Rattle.brl_contexts.proofs.forms.number_steps.Goals as goal
use Rattle.brl_pairs.specs.Listed.{AreListedEdges}
use Rattle.brl_pairs.specs.declared.step.Step.{Step}
use Rattle.brl_pairs.proofs.ListedLaws.{listed_push}

pub loop-step-preserved : goal.loop-step-preserved
loop-step-preserved g c =
    let old = c.loop-step.named in
    let next = c.number_of.new.self in
    let names = c.in_ok-next.ensures.names in
    let cells = c.keep.new.self in
    let kept : Stays old.cells cells = λ k own at. c.in_ok-cells.ensures.stays k own (names.cells k own at) in
    let done = c.loop-step.yielded in
    let x = c.in-Some.step in
    record {
      edges = subst (AreListedEdges next.states cells (done ++ x ∷ [])) (sym c.in_ok-push.ensures.items)
          (listed_push old.states next.states names.states old.cells cells kept done c.loop-step.edges.items x _ c.loop-step.invariant.edges
          (record { rule = refl; own_cells = c.in_ok-cells.ensures.number; next = c.in_ok-next.ensures.number }));
      reads = c.in_ok-push-2.ensures.items ∙ ap (λ (l : List (List ℕ)). l ++ x.reads ∷ []) c.loop-step.invariant.reads ∙ sym (map-append (λ (y : Step g.row.S.Denot). y.reads) done (x ∷ []));
      names = record {
        states = λ k s at. names.states k s (c.loop-step.invariant.names.states k s at);
        cells = λ k own at. kept k own (c.loop-step.invariant.names.cells k own at);
      };
      carries = λ h are. still_carried h old _ names.states c.in_ok-next.ensures.carried (ap (λ v. v.items) c.in_ok-next.ensures.owing) (c.loop-step.invariant.carries h are);
    }

pub loop-step-preserved-in_ok-push-2 : goal.loop-step-preserved-in_ok-push-2
loop-step-preserved-in_ok-push-2 g c =
    let old = c.loop-step.named in
    let next = c.number_of.new.self in
    let names = c.in_ok-next.ensures.names in
    let cells = c.keep.new.self in
    let kept : Stays old.cells cells = λ k own at. c.in_ok-cells.ensures.stays k own (names.cells k own at) in
    let done = c.loop-step.yielded in
    let x = c.in-Some.step in
    record {
      edges = subst (AreListedEdges next.states cells (done ++ x ∷ [])) (sym c.in_ok-push.ensures.items)
          (listed_push old.states next.states names.states old.cells cells kept done c.loop-step.edges.items x _ c.loop-step.invariant.edges
          (record { rule = refl; own_cells = c.in_ok-cells.ensures.number; next = c.in_ok-next.ensures.number }));
      reads = c.in_ok-push-2.ensures.items ∙ ap (λ (l : List (List ℕ)). l ++ x.reads ∷ []) c.loop-step.invariant.reads ∙ sym (map-append (λ (y : Step g.row.S.Denot). y.reads) done (x ∷ []));
      names = record {
        states = λ k s at. names.states k s (c.loop-step.invariant.names.states k s at);
        cells = λ k own at. kept k own (c.loop-step.invariant.names.cells k own at);
      };
      carries = λ h are. still_carried h old _ names.states c.in_ok-next.ensures.carried (ap (λ v. v.items) c.in_ok-next.ensures.owing) (c.loop-step.invariant.carries h are);
    }

pub returns-clause-carries : goal.returns-clause-carries
returns-clause-carries g c = c.loop-step.invariant.carries
