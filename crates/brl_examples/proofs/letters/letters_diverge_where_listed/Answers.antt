use Rattle.brl_examples.proofs.letters.letters_diverge_where_listed.Goals as goal

pub returns : goal.returns
returns c = c.one_divergence_law.ensures.listed
