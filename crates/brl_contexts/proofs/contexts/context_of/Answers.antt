use Rattle.std.proofs.Common.{◌∙◌, List, ap, length, slice_get}
use Rattle.brl_contexts.proofs.Kept.{added, contexts_push, stays_push}
use Rattle.brl_contexts.proofs.contexts.context_of.Goals as goal
use Rattle.brl_pairs.proofs.Lists.{push_last}

pub returns-clause-number : goal.returns-clause-number
returns-clause-number g c =
    ap (λ k. slice_get c.insert.new.self k) c.len-number.ensures
    ∙ ap (λ (l : List g.row.B-State.Denot). slice_get l (length c.args.contexts.now.bases))
    (added c.args.contexts.now.bases c.insert.new.self c.args.base c.in_ok-insert.field-0 c.in_ok-insert.ensures.known (λ member. c.in_default.not-Some member.0 (c.index_of.ensures.only member.0 member.1)) c.in_ok-insert.ensures.members)
    ∙ push_last c.args.contexts.now.bases c.args.base

pub returns-clause-contexts : goal.returns-clause-contexts
returns-clause-contexts g c =
    contexts_push (g.B.Machine.behaviour c.args.machine.now) (g.B.Based.sharing c.args.machine.now) c.args.contexts.now (record { named = c.list_forms.new.named; bases = c.insert.new.self; forms = c.push.new.self }) c.args.base c.in_ok-forms.forms c.in_ok-forms.ensures.names
    (added c.args.contexts.now.bases c.insert.new.self c.args.base c.in_ok-insert.field-0 c.in_ok-insert.ensures.known (λ member. c.in_default.not-Some member.0 (c.index_of.ensures.only member.0 member.1)) c.in_ok-insert.ensures.members)
    c.in_ok-push.ensures.items c.in_ok-forms.ensures.forms (c.in_ok-forms.ensures.carries (g.B.Based.sharing c.args.machine.now) c.requires.contexts.are_carried) c.requires.contexts

pub returns-clause-knows : goal.returns-clause-knows
returns-clause-knows g c = record {
  names = c.in_ok-forms.ensures.names;
  bases = stays_push c.args.contexts.now.bases c.insert.new.self c.args.base
      (added c.args.contexts.now.bases c.insert.new.self c.args.base c.in_ok-insert.field-0 c.in_ok-insert.ensures.known (λ member. c.in_default.not-Some member.0 (c.index_of.ensures.only member.0 member.1)) c.in_ok-insert.ensures.members);
  forms = stays_push c.args.contexts.now.forms.items c.push.new.self.items c.in_ok-forms.forms c.in_ok-push.ensures.items;
}
