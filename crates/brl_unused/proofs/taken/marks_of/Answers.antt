use Rattle.std.proofs.Common.{◌≡◌, ◌∙◌, Bool, List, ap, length, map, subst}
use Rattle.std.proofs.lemmas.Result.{IfOk-weaker}
use Rattle.brl_unused.specs.Graph.{AreLive}
use Rattle.brl_unused.specs.Marking.{AreMarkedBy}
use Rattle.brl_unused.proofs.Exploring.{marked_taken, whole}
use Rattle.brl_unused.proofs.taken.marks_of.Goals as goal

pub live_states-requires-clause-whole : goal.live_states-requires-clause-whole
live_states-requires-clause-whole g c = whole (g.M.Machine.behaviour c.args.machine.now) (g.M.Based.sharing c.args.machine.now) c.args.found.now c.requires.found c.requires.all

pub rules_to_live-requires-clause-whole : goal.rules_to_live-requires-clause-whole
rules_to_live-requires-clause-whole g c = whole (g.M.Machine.behaviour c.args.machine.now) (g.M.Based.sharing c.args.machine.now) c.args.found.now c.requires.found c.requires.all

pub returns : goal.returns
returns g c =
    let m = g.M.Machine.behaviour c.args.machine.now in
    let f = c.args.found.now in
    let ends : c.as_slice-2.result.now ≡ map m.ends f.contexts.named.states = c.as_slice-2.ensures.value ∙ c.in_ok-ends.ensures ∙ ap (map m.ends) c.as_slice.ensures.members in
    let are : AreLive (map m.ends f.contexts.named.states) f c.in_ok-live.live.items =
    subst (λ (es : List Bool). AreLive es f c.in_ok-live.live.items) ends c.in_ok-live.ensures in
    IfOk-weaker c.rules_to_live.result _ _ (λ marked by.
    marked_taken m (g.M.Based.sharing c.args.machine.now) f c.requires.found c.requires.all c.in_ok-live.live.items are c.args.rules marked.items
    (subst (λ (live : List Bool). AreMarkedBy f live (length f.expanded.items) c.args.rules marked.items) c.as_slice-3.ensures.value by)) c.rules_to_live.ensures
