use Rattle.std.proofs.Common.{ap, sym, ◌∙◌, filter}
use Rattle.brl_dues.specs.declared.rules_above.Group.{Group}
use Rattle.brl_dues.specs.SecondCharacter.{has_second}
use Rattle.brl_dues.proofs.SecondCharacter.{rules-at, rules-none}
use Rattle.brl_dues.proofs.rules_above.RulesAbove.with_second.Goals as goal

pub returns-in-Some : goal.returns-in-Some
returns-in-Some c =
    c.as_slice-in-Some.ensures.value ∙ ap (λ (g : Group). g.rules.items) c.index.ensures
    ∙ sym (rules-at c.args.second c.self.inside.groups.items c.as_slice.result.now c.in-Some.place c.index.result.now c.as_slice.ensures.value c.in-Some.ensures)
    ∙ c.self.invariant c.args.second ∙ ap (filter (has_second c.args.second)) c.self.view_is

pub returns-in-None : goal.returns-in-None
returns-in-None c =
    sym (rules-none c.args.second c.self.inside.groups.items c.as_slice.result.now c.as_slice.ensures.value c.in-None.ensures)
    ∙ c.self.invariant c.args.second ∙ ap (filter (has_second c.args.second)) c.self.view_is
