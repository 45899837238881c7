use Rattle.std.proofs.Common.{◌++◌, List, ℕ, refl, sym, ◌∙◌, ap, subst}
use Rattle.std.proofs.lemmas.Result.{on_ok_weaker}
use Rattle.brl_pairs.specs.NumberPairs.{IsThere}
use Rattle.brl_pairs.proofs.Unmatched.{apart_unmatched, unmatched_followed}
use Rattle.brl_closure.proofs.Additions.{advances_refl}
use Rattle.brl_closure.proofs.Adding.{adds_none}
use Rattle.brl_closure.specs.Trail.{IsOneOf}
use Rattle.brl_closure.proofs.There.{followed_still, followed_swapped}
use Rattle.brl_closure.proofs.search.finder.Finder.follow.Goals as goal

pub returns-in_ok-from_slice-in-Still-clause-followed : goal.returns-in_ok-from_slice-in-Still-clause-followed
returns-in_ok-from_slice-in-Still-clause-followed g c =
    on_ok_weaker c.find_pair.result
    (λ there e next cells. followed_still c.find_pair.new.trail.pairs c.args.ahead c.args.lead.now e c.in-Still.rest.now
    (c.in-Still.ensures ∙ ap (λ (z : List ℕ). z ++ c.in-Still.rest.now) (sym cells))
    (subst (λ (n : ℕ). IsThere c.find_pair.new.trail.pairs c.args.ahead n c.in-Still.rest.now) (sym next) (subst (IsThere c.find_pair.new.trail.pairs c.args.ahead c.args.next) c.in_ok-from_slice-in-Still.ensures there)))
    c.find_pair.ensures.there

pub returns-in_ok-from_slice-in-Swapped-clause-followed : goal.returns-in_ok-from_slice-in-Swapped-clause-followed
returns-in_ok-from_slice-in-Swapped-clause-followed g c =
    on_ok_weaker c.find_pair-in-Swapped.result
    (λ there e next cells. followed_swapped c.find_pair-in-Swapped.new.trail.pairs c.args.ahead c.args.lead.now e c.in-Swapped.rest.now c.in-Swapped.ensures.0 (cells ∙ c.in-Swapped.ensures.1)
    (subst (λ (n : ℕ). IsThere c.find_pair-in-Swapped.new.trail.pairs n c.args.ahead c.in-Swapped.rest.now) (sym next) (subst (IsThere c.find_pair-in-Swapped.new.trail.pairs c.args.next c.args.ahead) c.in_ok-from_slice-in-Swapped.ensures there)))
    c.find_pair-in-Swapped.ensures.there

pub returns-in-Apart-clause-followed : goal.returns-in-Apart-clause-followed
returns-in-Apart-clause-followed g c e next cells = unmatched_followed c.args.trail.now.pairs c.args.ahead c.args.lead.now e (rw cells ((apart_unmatched c.args.lead.now c.args.cells.now).0 c.in-Apart.ensures))

pub returns-in-Apart-clause-advances : goal.returns-in-Apart-clause-advances
returns-in-Apart-clause-advances g c = advances_refl g.M.Machine.behaviour c.args.self.now c.args.trail.now c.requires.active

pub returns-in_err-from_slice-in-Still-clause-adds : goal.returns-in_err-from_slice-in-Still-clause-adds
returns-in_err-from_slice-in-Still-clause-adds g c = adds_none (IsOneOf c.args.origins) c.args.trail.now c.args.trail.now refl refl refl refl

pub returns-in_err-from_slice-in-Swapped-clause-adds : goal.returns-in_err-from_slice-in-Swapped-clause-adds
returns-in_err-from_slice-in-Swapped-clause-adds g c = adds_none (IsOneOf c.args.origins) c.args.trail.now c.args.trail.now refl refl refl refl

pub returns-in-Apart-clause-adds : goal.returns-in-Apart-clause-adds
returns-in-Apart-clause-adds g c = adds_none (IsOneOf c.args.origins) c.args.trail.now c.args.trail.now refl refl refl refl
