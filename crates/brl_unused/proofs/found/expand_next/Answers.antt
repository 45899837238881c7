use Rattle.std.proofs.Common.{◌≡◌, ◌∙◌, List, arith, length, subst}
use Rattle.std.specs.List.{Contains}
use Rattle.brl_contexts.specs.Contexts.{edges_by}
use Rattle.brl_pairs.proofs.Numbered.{contained}
use Rattle.brl_pairs.specs.declared.edge.ListedEdge.{ListedEdge}
use Rattle.brl_unused.specs.Exploring.{Enters}
use Rattle.brl_unused.specs.declared.found.FoundStates.{FoundStates}
use Rattle.brl_unused.proofs.Exploring.{found_known, found_next, next_known, passed_next, read_number}
use Rattle.brl_unused.proofs.found.expand_next.Goals as goal

pub expand-requires-clause-within : goal.expand-requires-clause-within
expand-requires-clause-within g c =
    let f = c.args.found.now in
    let number = c.index.result.now in
    let at = read_number f.order.items (length f.expanded.items) c.len.result number (let size = c.len.ensures in omega (arith, size)) c.requires.left c.index.ensures in
    found_known (g.M.Machine.behaviour c.args.machine.now) f.contexts.named.states f.order.items c.requires.found.reached number (contained f.order.items (length f.expanded.items) number at)

pub enter-requires-clause-within : goal.enter-requires-clause-within
enter-requires-clause-within g c = λ e one.
    let contexts = c.expand.new.contexts in
    let own = c.in_ok-own.own in
    let known = next_known (g.M.Machine.behaviour c.args.machine.now) contexts c.index.result.now own c.in_ok-own.ensures.edges e
    (subst (λ (es : List ListedEdge). Contains es e) (c.as_slice.ensures.value ∙ c.in_ok-edges.ensures) one) in
    (let size = c.len-2.ensures in let longer = c.in_ok-lengthen.ensures.count in omega (arith, known, size, longer))

pub returns-clause-found : goal.returns-clause-found
returns-clause-found g c = λ whole.
    let f = c.args.found.now in
    let number = c.index.result.now in
    let own = c.in_ok-own.own in
    let contexts = c.expand.new.contexts in
    let new : FoundStates g.row.M-State.Denot g.row.M-More.Denot = record { contexts = contexts; order = c.enter.new.order; marks = c.enter.new.marks; expanded = c.push.new.self } in
    let same : c.as_slice.result.now ≡ edges_by contexts own = c.as_slice.ensures.value ∙ c.in_ok-edges.ensures in
    found_next (g.M.Machine.behaviour c.args.machine.now) (g.M.Based.sharing c.args.machine.now) f new c.requires.found c.in_ok-own.ensures.knows number own
    (read_number f.order.items (length f.expanded.items) c.len.result number (let size = c.len.ensures in omega (arith, size)) c.requires.left c.index.ensures) c.in_ok-own.ensures.edges
    (subst (λ (es : List ListedEdge). Enters es f.order.items c.enter.new.order.items) same c.in_ok-whole.ensures.enters)
    c.in_ok-own.ensures.contexts c.in_ok-whole.ensures.marked c.in_ok-push.ensures.items
    (subst (λ (es : List ListedEdge). (e : ListedEdge) → Contains es e → Contains c.enter.new.order.items e.next) same (c.in_ok-whole.ensures.all whole))

pub returns-clause-passed : goal.returns-clause-passed
returns-clause-passed g c = λ stopped.
    let f = c.args.found.now in
    let number = c.index.result.now in
    let own = c.in_ok-own.own in
    let contexts = c.expand.new.contexts in
    let new : FoundStates g.row.M-State.Denot g.row.M-More.Denot = record { contexts = contexts; order = c.enter.new.order; marks = c.enter.new.marks; expanded = c.push.new.self } in
    let same : c.as_slice.result.now ≡ edges_by contexts own = c.as_slice.ensures.value ∙ c.in_ok-edges.ensures in
    passed_next (g.M.Machine.behaviour c.args.machine.now) (g.M.Based.sharing c.args.machine.now) f new c.requires.found c.in_ok-own.ensures.knows number own
    (read_number f.order.items (length f.expanded.items) c.len.result number (let size = c.len.ensures in omega (arith, size)) c.requires.left c.index.ensures) c.in_ok-own.ensures.edges
    (subst (λ (es : List ListedEdge). Enters es f.order.items c.enter.new.order.items) same c.in_ok-whole.ensures.enters)
    c.args.limit c.in_ok-whole.ensures.marked (c.in_ok-whole.ensures.passed stopped) c.in_ok-whole.ensures.by_one
