use Rattle.std.proofs.Common.{◌≡◌, ◌++◌, ◌∷◌, [], List, All, sym, ◌∙◌, ap, subst, arith, length}
use Rattle.std.proofs.lemmas.Iterator.Consumers.{YieldsList-end}
use Rattle.std.proofs.lemmas.Iterator.Adapters.{YieldsList-from_vec}
use Rattle.std.proofs.lemmas.List.Elements.{All-push}
use Rattle.brl_closure.specs.Fresh.{ArePlaced, IsAmong, IsBegun}
use Rattle.brl_closure.specs.declared.search.fresh.Place.TheVariants.{New}
use Rattle.brl_closure.specs.declared.search.fresh.Fresh.{Fresh}
use Rattle.brl_closure.proofs.Fresh.{among_more, map_itself, placed_known, placed_new}
use Rattle.brl_pairs.proofs.Lists.{push_last}
use Rattle.brl_closure.proofs.search.finder.Finder.part.Goals as goal

pub loop-part-preserved-in-Some-number_near : goal.loop-part-preserved-in-Some-number_near
loop-part-preserved-in-Some-number_near g c =
    let kept = c.args.parts.now.parts in
    let l = c.loop-part in
    let part = c.in-Some.part in
    record {
      placed = subst (ArePlaced kept l.fresh.items (l.yielded ++ part ∷ [])) (sym c.in_ok-push-in-Some-number_near.ensures.items)
          (placed_known kept l.fresh.items l.yielded l.places.items part c.in-Some-number_near.number l.invariant.placed c.in-Some-number_near.ensures);
      begun = among_more l.yielded part (λ f. IsBegun (g.M.Parted.steps_of c.args.self.now.machine.now) f.part f) l.fresh.items l.invariant.begun;
    }

pub loop-part-preserved : goal.loop-part-preserved
loop-part-preserved g c =
    let kept = c.args.parts.now.parts in
    let l = c.loop-part in
    let part = c.in-Some.part in
    let f = c.in_ok-begin_part-in-None-number_near.field-0 in
    let begun = c.in_ok-begin_part-in-None-number_near.ensures in
    let steps_of = g.M.Parted.steps_of c.args.self.now.machine.now in
    let more = c.in_ok-push-in-None-number_near-2.ensures.items in
    let count : c.len-in-None-number_near.result ≡ length l.fresh.items = omega (arith, c.len-in-None-number_near.ensures, l.fresh.ok.0) in
    record {
      placed = subst (λ (now : List (Fresh g.row.M-State.Denot g.row.M-Part.Denot)). ArePlaced kept now (l.yielded ++ part ∷ []) c.push-in-None-number_near.new.self.items) (sym more)
          (subst (ArePlaced kept (l.fresh.items ++ f ∷ []) (l.yielded ++ part ∷ [])) (sym (c.in_ok-push-in-None-number_near.ensures.items ∙ ap (λ n. l.places.items ++ New n ∷ []) count))
          (placed_new kept l.fresh.items l.yielded l.places.items f part begun.same l.invariant.placed));
      begun = subst (All (λ h. IsAmong (l.yielded ++ part ∷ []) h.part × IsBegun steps_of h.part h)) (sym more)
          (All-push (λ h. IsAmong (l.yielded ++ part ∷ []) h.part × IsBegun steps_of h.part h) l.fresh.items f (among_more l.yielded part (λ h. IsBegun steps_of h.part h) l.fresh.items l.invariant.begun)
          (subst (λ q. IsAmong (l.yielded ++ part ∷ []) q) (sym begun.same) (length l.yielded, push_last l.yielded part), subst (λ q. IsBegun steps_of q f) (sym begun.same) begun));
    }

pub returns-clause-begun : goal.returns-clause-begun
returns-clause-begun g c =
    let t = YieldsList-end (YieldsList-from_vec {s = c.into_iter-part-iterator.result} c.args.listed.items c.into_iter-part-iterator.ensures.into_iter_gives.0 (c.into_iter-part-iterator.ensures.into_iter_gives.1 ∙ c.args.listed.ok.0)) c.loop-part.yielded c.loop-part.part-iterator c.loop-part.yielded_by c.next.result c.next.new.self c.in-None.is c.next.ensures.steps in
    subst (λ (l : List g.row.M-Part.Denot). All (λ f. IsAmong l f.part × IsBegun (g.M.Parted.steps_of c.args.self.now.machine.now) f.part f) c.loop-part.fresh.items) (sym (map_itself c.loop-part.yielded) ∙ t.0) c.loop-part.invariant.begun
