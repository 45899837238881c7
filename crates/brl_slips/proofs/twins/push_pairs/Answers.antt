use Rattle.std.proofs.Common.{◌≡◌, ap, subst, sym, ◌∙◌, arith, get_or, length, Some, true≢false}
use Rattle.std.specs.Option.{option_copied}
use Rattle.std.proofs.lemmas.Bool.{eq-eqb, eqb-true}
use Rattle.std.proofs.lemmas.Option.{none-some}
use Rattle.brl_slips.specs.Slips.{piece_of}
use Rattle.brl_slips.specs.Pairing.{AreMembers}
use Rattle.brl_slips.proofs.Pairing.{none_of_later, none_of_many, pairs-skip, small_from}
use Rattle.brl_slips.proofs.twins.push_pairs.Goals as goal
use Rattle.brl_slips.proofs.twins.push_pairs.Goals.{then-members-ge-FAMILY-via-then-members-ge-FAMILY, then-members-ge-FAMILY-via-else-members-ge-FAMILY+then-not-contains}

pub returns-in_default : goal.returns-in_default
returns-in_default c =
    let lexicon = c.args.lexicon.now in
    pairs-skip lexicon c.args.other c.args.pairs.now.items
    (λ t is at. none-some is.are.right (sym (ap option_copied c.in_default.is) ∙ (c.piece_of.ensures ∙ (ap (piece_of lexicon) (sym at) ∙ is.are.other)))) c.requires.pairs

pub returns-then-members-ge-FAMILY : goal.returns-then-members-ge-FAMILY
returns-then-members-ge-FAMILY c =
    let lexicon = c.args.lexicon.now in
    let other = c.args.other in
    let family = c.in_ok-family.family in
    let piece = c.in-Some.piece.now in
    let members = c.members-members.result.now in
    let rule : piece_of lexicon other ≡ Some piece = sym c.piece_of.ensures ∙ ap option_copied c.in-Some.is in
    let are : AreMembers lexicon (length lexicon.entries.items) family members = subst (AreMembers lexicon (length lexicon.entries.items) family) (sym c.members-members.ensures) (c.requires.families family) in
    pairs-skip lexicon other c.args.pairs.now.items
    (elim c.then-members-ge-FAMILY.branch [
      | then-members-ge-FAMILY-via-then-members-ge-FAMILY w ↦
          none_of_many lexicon other family piece members rule c.in_ok-family.ensures.cells c.in_ok-family.ensures.characters are w.if-members-ge-FAMILY.true
      | then-members-ge-FAMILY-via-else-members-ge-FAMILY+then-not-contains w ↦
          none_of_later lexicon other family piece members rule c.in_ok-family.ensures.cells c.in_ok-family.ensures.characters are w.if-members-ge-FAMILY.false
          (λ has. true≢false (sym (eq-eqb (get_or members has.0 other) other has.2) ∙ w.if-not-contains.ensures.cases has.0 other (omega arith) has.1))
    ]) c.requires.pairs

pub push_pairs_with-requires-clause-members : goal.push_pairs_with-requires-clause-members
push_pairs_with-requires-clause-members c =
    let lexicon = c.args.lexicon.now in
    let other = c.args.other in
    let family = c.in_ok-family.family in
    let piece = c.in-Some.piece.now in
    let members = c.members-members.result.now in
    let rule : piece_of lexicon other ≡ Some piece = sym c.piece_of.ensures ∙ ap option_copied c.in-Some.is in
    let are : AreMembers lexicon (length lexicon.entries.items) family members = subst (AreMembers lexicon (length lexicon.entries.items) family) (sym c.members-members.ensures) (c.requires.families family) in
    small_from lexicon other family piece members rule c.in_ok-family.ensures.cells c.in_ok-family.ensures.characters are c.if-members-ge-FAMILY.false
    (let found = c.if-not-contains.ensures.cases in (found.0, found.1, eqb-true (get_or members found.0 other) other (found.2 other)))
