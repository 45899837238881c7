use Rattle.std.proofs.Common.{◌≡◌, subst, sym, ◌∙◌, ltb, Some}
use Rattle.std.specs.Prelude.{Decides}
use Rattle.brl_slips.specs.Twins.{AreRare, IsCandidate, letters}
use Rattle.brl_slips.specs.Pairing.{count_of}
use Rattle.brl_slips.proofs.Counting.{letters_there}
use Rattle.brl_slips.proofs.Once.{few-decided}
use Rattle.brl_slips.proofs.twins.are_rare.Goals as goal

pub returns-in-Some : goal.returns-in-Some
returns-in-Some c =
    let lexicon = c.args.lexicon.now in
    let pair = c.in-Some.letters in
    subst (λ p. Decides (ltb c.count_of.result 4) (AreRare lexicon p)) (sym c.in-Some.is ∙ c.letters.ensures)
    (subst (λ n. Decides (ltb n 4) (AreRare lexicon (Some pair))) (sym c.count_of.ensures)
    (few-decided (λ twins. IsCandidate lexicon twins × (letters lexicon twins ≡ Some pair)) (count_of c.args.counts.now pair) (c.requires.counts pair)))

pub returns-in-None : goal.returns-in-None
returns-in-None c = absurd (letters_there c.args.lexicon.now c.args.twins.now c.requires.twins.are (sym c.letters.ensures ∙ c.in-None.is))
