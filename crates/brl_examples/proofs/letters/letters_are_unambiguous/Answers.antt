use Rattle.brl_pairs.proofs.LettersLaws.{letters_IsClosed}
use Rattle.brl_examples.proofs.letters.letters_are_unambiguous.Goals as goal

pub returns : goal.returns
returns c = c.closed_sets_law.ensures letters_IsClosed
