use Rattle.std.proofs.Common.{◌||◌, ℕ, Bool, List, sym, ◌∙◌, ap}
use Rattle.brl_pairs.specs.Divergence.{has_rules}
use Rattle.brl_pairs.specs.Excused.{has_pair}
use Rattle.brl_pairs.proofs.Excusing.{in_either_order}
use Rattle.brl_pairs.proofs.rule_pairs.RulePairs.has.Goals as goal

pub returns-then-contains : goal.returns-then-contains
returns-then-contains c =
    let given = c.self.inside.given.items in
    let here = sym (c.self.invariant.same_pairs (c.args.one, c.args.other)) ∙ sym c.contains.ensures ∙ c.if-contains.true in
    c.if-contains.true
    ∙ sym (ap (λ (b : Bool). b || has_pair given (c.args.other, c.args.one)) here)
    ∙ sym (in_either_order given c.args.one c.args.other)
    ∙ ap (λ (pairs : List (ℕ × ℕ)). has_rules pairs c.args.one c.args.other) c.self.view_is

pub returns-else-contains : goal.returns-else-contains
returns-else-contains c =
    let given = c.self.inside.given.items in
    let here = sym (c.self.invariant.same_pairs (c.args.one, c.args.other)) ∙ sym c.contains.ensures ∙ c.if-contains.false in
    c.contains-else-contains.ensures ∙ c.self.invariant.same_pairs (c.args.other, c.args.one)
    ∙ sym (ap (λ (b : Bool). b || has_pair given (c.args.other, c.args.one)) here)
    ∙ sym (in_either_order given c.args.one c.args.other)
    ∙ ap (λ (pairs : List (ℕ × ℕ)). has_rules pairs c.args.one c.args.other) c.self.view_is
