use Rattle.brl_tool.proofs.search.verdict.Goals as goal

pub returns : goal.returns
returns g c = c.answer_found.ensures c.args.limit c.in_ok-found.ensures
