use Rattle.std.proofs.Common.{◌++◌, ◌∷◌, [], List, sym, ◌∙◌, subst}
use Rattle.std.proofs.lemmas.Iterator.Consumers.{YieldsList-end}
use Rattle.std.proofs.lemmas.Iterator.Adapters.{YieldsList-from_vec}
use Rattle.brl_closure.specs.Listing.{AreNumbersOf}
use Rattle.brl_closure.proofs.Fresh.{map_itself}
use Rattle.brl_closure.proofs.Listing.{no_numbers, numbers_push}
use Rattle.brl_closure.proofs.check.edges.numbers_of_parts.Goals as goal

pub loop-part-init : goal.loop-part-init
loop-part-init g c = record { kept = c.requires; cells = λ k own at. at; numbers = no_numbers c.args.kept.now.parts.parts c.in_ok-numbers.numbers.items c.in_ok-numbers.ensures.items }

pub loop-part-preserved : goal.loop-part-preserved
loop-part-preserved g c =
    let l = c.loop-part in
    record {
      kept = c.in_ok-number.ensures.kept;
      cells = λ k own at. c.in_ok-number.ensures.cells k own (l.invariant.cells k own at);
      numbers = subst (AreNumbersOf c.number_of_part.new.kept.parts.parts (l.yielded ++ c.in-Some.part ∷ [])) (sym c.in_ok-push.ensures.items)
          (numbers_push l.kept.parts.parts c.number_of_part.new.kept.parts.parts c.in_ok-number.ensures.stays l.yielded l.numbers.items c.in-Some.part c.in-Some-2.number l.invariant.numbers (rw c.in-Some-2.is at c.in_ok-number.ensures.number));
    }

pub returns-clause-numbers : goal.returns-clause-numbers
returns-clause-numbers g c =
    let t = YieldsList-end (YieldsList-from_vec {s = c.into_iter-part-iterator.result} c.args.listed.items c.into_iter-part-iterator.ensures.into_iter_gives.0 (c.into_iter-part-iterator.ensures.into_iter_gives.1 ∙ c.args.listed.ok.0)) c.loop-part.yielded c.loop-part.part-iterator c.loop-part.yielded_by c.next.result c.next.new.self c.in-None.is c.next.ensures.steps in
    subst (λ (l : List g.row.M-Part.Denot). AreNumbersOf c.loop-part.kept.parts.parts l c.loop-part.numbers.items) (sym (map_itself c.loop-part.yielded) ∙ t.0) c.loop-part.invariant.numbers
