use Rattle.brl_cut.proofs.starting.survey_rewritten.Goals as goal

pub returns-clause-found : goal.returns-clause-found
returns-clause-found c = (c.args.whole.now.lines, c.requires c.if-rewrite.false, c.in_ok-survey_loaded.ensures.faulty, c.in_ok-survey_loaded.ensures.places)
