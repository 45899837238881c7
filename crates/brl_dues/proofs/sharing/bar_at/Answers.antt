use Rattle.std.proofs.Common.{◌≡◌, ◌∙◌, Some, ap, filter, slice_get, sym}
use Rattle.std.proofs.lemmas.Option.{slice_get-get_or, slice_get-map, slice_get_past}
use Rattle.std.specs.Prelude.{option_map, List}
use Rattle.brl_states.specs.declared.due.Due.{Due}
use Rattle.brl_states.specs.Order.{due_chars}
use Rattle.brl_dues.specs.Contexts.{is_bar}
use Rattle.brl_dues.proofs.SharingLaws.{bar-there}
use Rattle.brl_dues.proofs.sharing.bar_at.Goals as goal

pub returns-in-Some : goal.returns-in-Some
returns-in-Some c =
    let n = c.args.number in
    let bar = c.in-Some.bar.now in
    let there : slice_get (filter is_bar c.args.dues.now) n ≡ Some bar = ap (λ (l : List Due). slice_get l n) (sym c.bars_of.ensures.bars)
    ∙ slice_get-get_or c.bars_of.result.now n bar c.in-Some.ensures.lookup.3.0 ∙ ap (λ (due : Due). Some due) (sym c.in-Some.ensures.lookup.1) in
    c.chars_of.ensures (bar-there c.args.dues.now n bar there) ∙ sym (slice_get-map due_chars (filter is_bar c.args.dues.now) n ∙ ap (option_map due_chars) there)

pub returns-in-None : goal.returns-in-None
returns-in-None c =
    let n = c.args.number in
    sym (slice_get-map due_chars (filter is_bar c.args.dues.now) n
    ∙ ap (option_map due_chars) (ap (λ (l : List Due). slice_get l n) (sym c.bars_of.ensures.bars) ∙ slice_get_past c.bars_of.result.now n c.in-None.ensures.lookup.3))
