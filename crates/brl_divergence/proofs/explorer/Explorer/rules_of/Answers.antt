use Rattle.std.proofs.Common.{◌∙◌, List, ℕ, sym, ap}
use Rattle.std.specs.Prelude.{slice_get}
use Rattle.std.proofs.lemmas.Option.{slice_get-get_or}
use Rattle.brl_divergence.proofs.Steps.{read_within, rules_read, two_edges}
use Rattle.brl_divergence.proofs.explorer.Explorer.rules_of.Goals as goal

pub bounds-rules-first : goal.bounds-rules-first
bounds-rules-first g c =
    read_within (g.M.Machine.behaviour c.args.self.now.finder.now.machine.now) c.requires.expanded.0 c.args.self.now.expanded.now c.requires.expanded.1 c.args.state c.args.first.now c.requires.first
    c.index.result.now c.index.ensures c.as_slice-rules.result.now c.as_slice-rules.ensures.value

pub bounds-rules-second : goal.bounds-rules-second
bounds-rules-second g c =
    read_within (g.M.Machine.behaviour c.args.self.now.finder.now.machine.now) c.requires.expanded.0 c.args.self.now.expanded.now c.requires.expanded.1 c.args.state c.args.second.now c.requires.second
    c.index.result.now c.index.ensures c.as_slice-rules.result.now c.as_slice-rules.ensures.value

pub returns : goal.returns
returns g c states h =
    let a = c.args in
    let m = g.M.Machine.behaviour a.self.now.finder.now.machine.now in
    let e = a.self.now.expanded.now in
    let rules = c.index.result.now in
    let slice = c.as_slice-rules.result.now in
    let at = rules_read m states e h a.state a.first.now c.requires.first rules c.index.ensures in
    let first = read_within m states e h a.state a.first.now c.requires.first rules c.index.ensures slice c.as_slice-rules.ensures.value in
    let second = read_within m states e h a.state a.second.now c.requires.second rules c.index.ensures slice c.as_slice-rules.ensures.value in
    two_edges m states e h a.state a.first.now a.second.now c.requires.first c.requires.second c.requires.in_order rules at _ _
    (ap (λ (l : List ℕ). slice_get l a.first.now.place) (sym c.as_slice-rules.ensures.value) ∙ slice_get-get_or slice a.first.now.place 0 first)
    (ap (λ (l : List ℕ). slice_get l a.second.now.place) (sym c.as_slice-rules.ensures.value) ∙ slice_get-get_or slice a.second.now.place 0 second)
