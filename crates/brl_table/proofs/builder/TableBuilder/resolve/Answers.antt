use Rattle.brl_table.proofs.builder.TableBuilder.resolve.Goals as goal

pub returns-in-Lists : goal.returns-in-Lists
returns-in-Lists c = rw c.in-Lists.is (c.resolve_list.ensures c.args.rules.now.items)
