use Rattle.brl_pairs.specs.Examples.{letter_states, letter_pairs}
use Rattle.brl_pairs.proofs.LettersLaws.{letters_IsClosed}
use Rattle.brl_examples.proofs.letters.numbered_letters_are_unambiguous.Goals as goal

pub returns : goal.returns
returns c = c.numbered_sets_law.ensures letter_states letter_pairs letters_IsClosed
