use Rattle.std.proofs.Common.{rules, ◌∙◌, ◌++◌, ◌∷◌, [], ap, if◌then◌else◌, sym}
use Rattle.std.specs.Option.{option_map_or}
use Rattle.std.specs.Str.{bytes_eq}
use Rattle.brl_accepted.specs.Words.{numbers_of}
use Rattle.brl_accepted.proofs.Indexing.{numbers_push}
use Rattle.brl_accepted.proofs.index.insert.Goals as goal

pub returns-in-Some : goal.returns-in-Some
returns-in-Some c other =
    let had = ap (λ found. option_map_or (λ v. v.items) found []) c.in-Some.ensures.value in
    numbers_push c.args.text.now c.args.index.now (c.get_mut.follows.lender c.push.new.self) c.push.new.self c.args.number
    ((c.get_mut.follows.holds c.push.new.self).3 (search rules)) (c.in_ok-push.ensures.items ∙ ap (λ r. r ++ c.args.number ∷ []) had) other

pub returns : goal.returns
returns c other =
    let text = c.args.text.now in
    let m = c.get_mut.follows.lender-at-none in
    let none = ap (λ found. option_map_or (λ v. v.items) found []) c.in_default.ensures.value in
    let same = c.get_mut.follows.holds-at-none in
    let added = numbers_push text m c.insert.new.self c.push-2.new.self c.args.number c.in_ok-insert.ensures.updates
    (c.in_ok-push-2.ensures.items ∙ ap (λ r. r ++ c.args.number ∷ []) (c.new-first.ensures.items ∙ none ∙ ap (λ o. numbers_of o text) (sym same))) other in
    added ∙ ap (λ o. numbers_of o other ++ (if bytes_eq other text then c.args.number ∷ [] else [])) same
