use Rattle.std.proofs.Common.{◌+◌, ◌<◌, ◌∙◌, ap, arith, length, sym}
use Rattle.brl_rules.specs.Choice.{Choice}
use Rattle.brl_rules.proofs.FirstInfo.{number-small, own-known, some-characters}
use Rattle.brl_rules.proofs.TakenLengths.{chosen-takes}
use Rattle.brl_rules.proofs.TreeWalk.{chosen-at, chosen-none, place-within}
use Rattle.brl_rules.proofs.table.Table.choice_of.Goals as goal

pub bounds-rules_in_rank-number : goal.bounds-rules_in_rank-number
bounds-rules_in_rank-number c = place-within c.args.self.now c.args.before c.args.rest.now c.in-Some.number (sym c.in-Some.ensures) c.rules_in_rank.result.now c.rules_in_rank.ensures.rules

pub overflow_add-result : goal.overflow_add-result
overflow_add-result c =
    let small : c.args.info.now.number < 1024 =
    number-small c.args.self.now c.args.info.now c.law.ensures.parts.numbered c.law.ensures.parts.few.characters c.args.rest.now c.requires.info in
    omega (arith, c.rules_in_rank-in-None.ensures.few)

pub returns-in-Some : goal.returns-in-Some
returns-in-Some c =
    let is = chosen-at c.args.self.now c.args.before c.args.rest.now c.in-Some.number (sym c.in-Some.ensures) c.rules_in_rank.result.now c.rules_in_rank.ensures.rules
    c.index-rules_in_rank-number.result c.index-rules_in_rank-number.is in
    let takes = chosen-takes c.args.self.now c.args.before c.args.rest.now (some-characters c.args.self.now c.args.info.now c.args.rest.now c.requires.info) in
    let taken = ap (λ (choice : Choice). choice.taken) is in
    record {
      choice = record {
        number = sym (ap (λ (choice : Choice). choice.number) is);
        taken = c.len.ensures ∙ sym taken;
        cells = c.as_slice.ensures ∙ sym (ap (λ (choice : Choice). choice.cells) is);
      };
      some = omega (arith, takes.some, c.len.ensures, taken);
      room = omega (arith, takes.room, c.len.ensures, taken);
    }

pub returns-in-None-clause-choice : goal.returns-in-None-clause-choice
returns-in-None-clause-choice c =
    let is = chosen-none c.args.self.now c.args.before c.args.rest.now (sym c.in-None.ensures) ∙ own-known c.args.self.now c.args.info.now c.args.rest.now c.requires.info in
    record {
      number = ap (λ n. n + c.args.info.now.number) (ap length c.rules_in_rank-in-None.ensures.rules) ∙ sym (ap (λ (choice : Choice). choice.number) is);
      taken = sym (ap (λ (choice : Choice). choice.taken) is);
      cells = c.as_slice-in-None.ensures ∙ sym (ap (λ (choice : Choice). choice.cells) is);
    }
