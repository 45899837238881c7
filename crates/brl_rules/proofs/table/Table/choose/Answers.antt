use Rattle.std.proofs.Common.{ap, sym, ◌∙◌, ◌≡◌, Some, slice_get}
use Rattle.brl_rules.proofs.TreeWalk.{number-known}
use Rattle.brl_rules.proofs.FirstInfo.{first_info-there}
use Rattle.brl_rules.proofs.table.Table.choose.Goals as goal

pub choice_of-requires : goal.choice_of-requires
choice_of-requires c = record {
  info = first_info-there c.args.self.now c.args.rest.now c.in_ok-first.field-0.now (sym c.in_ok-first.ensures.value) ∙ sym c.in_ok-info.ensures.value;
  run = c.is_in_caps_run_of-run.ensures;
}

pub returns : goal.returns
returns c =
    let t = c.args.self.now in
    let rest = c.args.rest.now in
    let x = c.in_ok-first.field-0.now in
    let there : slice_get rest 0 ≡ Some x = sym c.in_ok-first.ensures.value in
    sym (number-known t c.args.before rest x c.in_ok-info.info.now there (sym c.in_ok-info.ensures.value)
    ∙ ap (λ number. Some number) (sym c.choice_of.ensures.choice.number))
