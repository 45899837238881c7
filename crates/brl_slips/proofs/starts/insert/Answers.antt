use Rattle.std.proofs.Common.{rules, ◌≡◌, ◌∷◌, ◌++◌, ℕ, [], List, Vec, ap, subst, sym, ◌∙◌, nat_eq, if◌then◌else◌}
use Rattle.std.specs.Cmp.Lexicographic.{pointwise}
use Rattle.std.specs.Option.{option_map_or}
use Rattle.brl_slips.specs.Searching.{numbers_of}
use Rattle.brl_slips.proofs.Indexing.{numbers-push}
use Rattle.brl_slips.proofs.starts.insert.Goals as goal

pub returns-in-Some : goal.returns-in-Some
returns-in-Some c other =
    let had = ap (λ found. option_map_or (λ v. v.items) found []) c.in-Some.ensures.value in
    numbers-push c.args.chars.now c.args.numbers.now (c.get_mut.follows.lender c.push.new.self) c.push.new.self c.args.number
    ((c.get_mut.follows.holds c.push.new.self).3 (search rules)) (c.in_ok-push.ensures.items ∙ ap (λ r. r ++ c.args.number ∷ []) had) other

pub returns : goal.returns
returns c other =
    let key = c.in_ok-from_slice.field-0.items in
    let m = c.get_mut.follows.lender-at-none in
    let none = ap (λ found. option_map_or (λ v. v.items) found []) c.in_default.ensures.value in
    let added = numbers-push key m c.insert.new.self c.push-2.new.self c.args.number c.in_ok-insert.ensures.updates
    (c.in_ok-push-2.ensures.items ∙ ap (λ r. r ++ c.args.number ∷ [])
    (c.new-first.ensures.items ∙ (none ∙ (ap (λ k. numbers_of c.args.numbers.now k) (sym c.in_ok-from_slice.ensures.items) ∙ ap (λ o. numbers_of o key) (sym c.get_mut.follows.holds-at-none))))) other in
    added
    ∙ (ap (λ o. numbers_of o other ++ (if pointwise nat_eq key other then c.args.number ∷ [] else [])) c.get_mut.follows.holds-at-none
    ∙ ap (λ k. numbers_of c.args.numbers.now other ++ (if pointwise nat_eq k other then c.args.number ∷ [] else [])) c.in_ok-from_slice.ensures.items)
