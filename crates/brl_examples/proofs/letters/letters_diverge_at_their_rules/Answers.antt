use Rattle.brl_pairs.specs.Examples.{a_or_b}
use Rattle.brl_pairs.proofs.LettersLaws.{letters_IsClosedBut}
use Rattle.brl_examples.proofs.letters.letters_diverge_at_their_rules.Goals as goal

pub returns : goal.returns
returns c = c.divergence_law.ensures.texts a_or_b letters_IsClosedBut
