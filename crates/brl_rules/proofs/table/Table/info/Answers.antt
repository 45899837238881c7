use Rattle.std.proofs.Common.{◌∙◌, ◌≡◌, ap, sym, Some, ℕ}
use Rattle.std.specs.Prelude.{option_map, slice_get}
use Rattle.brl_rules.specs.declared.rule.Info.{Info}
use Rattle.brl_rules.specs.TableView.{TableView, info_of}
use Rattle.brl_rules.proofs.EntryNumbers.{found_number-small}
use Rattle.brl_rules.proofs.table.Table.info.Goals.{In_ok-info}
use Rattle.brl_rules.proofs.table.Table.info.Goals as goal

-- what is at the place of a character is its info
there : (c : In_ok-info) → Some c.in_ok-info.info.now ≡ info_of c.args.self.now c.args.character
there c =
    let entries = c.self.inside.parts.characters.entries in
    ap (option_map (λ (entry : ℕ × Info). entry.1)) c.in_ok-info.ensures.entry
    ∙ ap (λ place. option_map (λ (entry : ℕ × Info). entry.1) (slice_get entries place)) c.place.ensures
    ∙ c.self.invariant.are_pages c.args.character ∙ ap (λ (t : TableView). info_of t c.args.character) c.self.view_is

pub returns-clause-value : goal.returns-clause-value
returns-clause-value c = there c

pub returns-clause-number : goal.returns-clause-number
returns-clause-number c =
    found_number-small _ c.self.invariant.table.parts.numbered c.self.invariant.table.parts.few.characters c.args.character (Some c.in_ok-info.info)
    (there c ∙ ap (λ (t : TableView). info_of t c.args.character) (sym c.self.view_is))
