use Rattle.std.proofs.Common.{◌≡◌, ◌∙◌, ◌<◌, ◌++◌, ◌∷◌, [], List, Some, ap, arith, cond, length, refl, slice_get, subst, sym}
use Rattle.std.proofs.lemmas.Option.{slice_get_within}
use Rattle.brl_contexts.specs.declared.carried.Carried.{Carried}
use Rattle.brl_contexts.proofs.Kept.{added, carried_push}
use Rattle.brl_contexts.proofs.named.number_owing.Goals as goal
use Rattle.brl_pairs.specs.Members.{IsMember}
use Rattle.brl_pairs.proofs.Lists.{read_at}

pub returns-in-Some-clause-number : goal.returns-in-Some-clause-number
returns-in-Some-clause-number g c =
    let named = c.args.named.now in
    let key : Carried g.row.B-More.Denot = record { next = c.args.next; more = c.args.more } in
    let count = c.requires.carried.count in
    let within = slice_get_within named.carried c.in-Some.place key c.in-Some.ensures.found in
    c.requires.carried.each c.in-Some.place key c.index.result.now c.in-Some.ensures.found
    (read_at named.owing.items named.owing.items c.in-Some.place c.index.result.now refl (omega (arith, count, within)) c.index.ensures)

pub returns-clause-number : goal.returns-clause-number
returns-clause-number g c =
    let states = c.args.named.now.states in
    let next = c.index-states-next.result in
    let within = subst (λ (l : List g.row.B-State.Denot). c.args.next < length l) (sym c.as_slice-states.ensures.members) c.requires.next in
    record {
      state = next;
      at = c.in_ok-number.ensures.names.states c.args.next next (read_at c.as_slice-states.result.now states c.args.next next c.as_slice-states.ensures.members within c.index-states-next.is);
      owing = c.in_ok-number.ensures.number ∙ ap Some c.in_ok-owing.ensures;
    }

pub returns-clause-carried : goal.returns-clause-carried
returns-clause-carried g c =
    let h = g.B.Based.sharing c.args.machine.now in
    let key : Carried g.row.B-More.Denot = record { next = c.args.next; more = c.args.more } in
    let named = c.args.named.now in
    let still = c.in_ok-number.ensures in
    carried_push h named _ still.names.states key c.in_ok-number.number
    (added named.carried c.insert.new.self key c.in_ok-insert.field-0 (λ no. subst (λ (l : List (Carried g.row.B-More.Denot)). IsMember l key) still.carried (c.in_ok-insert.ensures.known no)) (λ member. c.in_default.not-Some member.0 (c.index_of.ensures.only member.0 member.1)) (c.in_ok-insert.ensures.members ∙ ap (λ (l : List (Carried g.row.B-More.Denot)). cond c.in_ok-insert.field-0 (l ++ key ∷ []) l) still.carried))
    (c.in_ok-push.ensures.items ∙ ap (λ v. v.items ++ c.in_ok-number.number ∷ []) still.owing) (returns-clause-number g c) c.requires.carried
