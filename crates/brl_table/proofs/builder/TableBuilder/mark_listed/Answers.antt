use Rattle.brl_table.proofs.ListSteps.{all-marked}
use Rattle.brl_table.proofs.builder.TableBuilder.mark_listed.Goals as goal

pub returns-clause-marked : goal.returns-clause-marked
returns-clause-marked c =
    let old = c.args.self.now in
    all-marked old.items.items c.as_slice.result.now old.characters c.apply_lists.new.characters c.requires.defined c.as_slice.ensures.value c.apply_lists.ensures.roles c.apply_lists.ensures.notices
