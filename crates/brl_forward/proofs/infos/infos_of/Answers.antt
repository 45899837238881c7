use Rattle.std.proofs.Common.{◌∙◌, List, ℕ, ap, subst, sym, take_all}
use Rattle.brl_rules.specs.Infos.{AreInfosOf}
use Rattle.brl_rules.specs.TableView.{info_of}
use Rattle.brl_forward.proofs.UnknownChars.{first_unknown-at, text-from_infos}
use Rattle.brl_forward.proofs.infos.infos_of.Goals as goal

pub returns-in-None-clause-fault : goal.returns-in-None-clause-fault
returns-in-None-clause-fault c =
    first_unknown-at c.args.table.now c.args.text.now c.loop-place.infos.items c.loop-place.place c.index-text-place.result c.loop-place.invariant.infos c.loop-place-test.true
    (ap (info_of c.args.table.now) (sym c.index-text-place.is) ∙ sym c.in-None.ensures.value)

pub returns-clause-text : goal.returns-clause-text
returns-clause-text c =
    let whole = take_all c.loop-place.place c.args.text.now c.loop-place-test.false in
    let are = subst (λ (text : List ℕ). AreInfosOf c.args.table.now text c.loop-place.infos.items) whole c.loop-place.invariant.infos in
    text-from_infos c.args.table.now c.args.text.now c.loop-place.infos.items are
