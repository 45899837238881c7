use Rattle.std.proofs.Common.{◌∷◌, ◌++◌, [], ap, sym, ◌∙◌, if◌then◌else◌}
use Rattle.std.specs.Option.{option_map_or}
use Rattle.brl_slips.specs.Pairing.{is_family, members_of}
use Rattle.brl_slips.proofs.Pairing.{member-insert}
use Rattle.brl_slips.proofs.twins.insert.Goals as goal

pub returns : goal.returns
returns c other =
    let family = c.args.family in
    let m = c.get_mut.follows.lender-at-none in
    let none = ap (λ found. option_map_or (λ v. v.items) found []) c.in_default.ensures.value in
    member-insert m c.insert.new.self family c.push-2.new.self c.args.entry c.in_ok-insert.ensures.updates
    (c.in_ok-push-2.ensures.items ∙ ap (λ r. r ++ c.args.entry ∷ []) (c.new-first.ensures.items ∙ (none ∙ ap (λ o. members_of o family) (sym c.get_mut.follows.holds-at-none)))) other
    ∙ ap (λ o. members_of o other ++ (if is_family family other then c.args.entry ∷ [] else [])) c.get_mut.follows.holds-at-none
