use Rattle.std.proofs.Common.{ap, sym, length, ◌∙◌}
use Rattle.brl_rules.specs.Choice.{Choice}
use Rattle.brl_rules.specs.TableView.{info_of}
use Rattle.brl_rules.proofs.FirstInfo.{first_info-got, chosen-undefined}
use Rattle.brl_rules.proofs.table.Table.choice.Goals as goal

pub choice_of-requires : goal.choice_of-requires
choice_of-requires c = record {
  info = first_info-got c.args.self.now c.args.rest.now c.index-rest-0.result c.requires
      ∙ ap (info_of c.args.self.now) (sym c.index-rest-0.is) ∙ sym c.in-Some.ensures.value;
  run = c.is_in_caps_run_of-run.ensures;
}

pub returns-in-None-clause-choice : goal.returns-in-None-clause-choice
returns-in-None-clause-choice c =
    let is = chosen-undefined c.args.self.now c.law.ensures c.args.before c.args.rest.now c.index-rest-0.result c.requires
    (ap (info_of c.args.self.now) (sym c.index-rest-0.is) ∙ sym c.in-None.ensures.value) in
    record {
      number = ap length c.rules_in_rank.ensures.rules ∙ sym (ap (λ (choice : Choice). choice.number) is);
      taken = sym (ap (λ (choice : Choice). choice.taken) is);
      cells = sym (ap (λ (choice : Choice). choice.cells) is);
    }
