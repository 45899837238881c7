use Rattle.std.proofs.Common.{◌∙◌, ap, sym, nat_eq}
use Rattle.std.specs.Map.{lookup}
use Rattle.std.specs.Option.{option_copied_mut}
use Rattle.brl_table.proofs.DefinitionSteps.{entries-again, entries-new}
use Rattle.brl_table.proofs.characters.update_infos.Goals as goal

pub returns-in_ok-merge-in-Some : goal.returns-in_ok-merge-in-Some
returns-in_ok-merge-in-Some c defined represents =
    entries-again defined c.args.definition.now c.in-Some.info.now _ c.args.infos.now.entries _ represents
    (sym c.get_mut.ensures.value ∙ ap option_copied_mut c.in-Some.is) c.in_ok-merge-in-Some.ensures (c.get_mut.follows.holds _).0

pub returns-in_ok-insert-in-None : goal.returns-in_ok-insert-in-None
returns-in_ok-insert-in-None c defined represents =
    let same = ap (λ m. m.entries) c.get_mut.follows.holds-at-none in
    entries-new defined c.args.definition.now c.len-number.result c.get_mut.follows.lender-at-none.entries _ (same ∙ represents)
    (ap (lookup (nat_eq c.args.definition.now.character)) same ∙ sym c.get_mut.ensures.value ∙ ap option_copied_mut c.in-None.is)
    c.len-number.ensures.len (rw c.in_ok-first_info-in-None.ensures at c.in_ok-insert-in-None.ensures.entries)
