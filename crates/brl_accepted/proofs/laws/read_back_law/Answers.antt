use Rattle.std.proofs.Common.{◌≡◌, map, true}
use Rattle.std.specs.Str.{all_scalars}
use Rattle.std.proofs.lemmas.List.Elements.{All-map}
use Rattle.brl_lines.specs.Views.{line_view}
use Rattle.brl_accepted.specs.Pairs.{wording}
use Rattle.brl_accepted.proofs.Plain.{wording_above}
use Rattle.brl_accepted.proofs.ReadBack.{read_back}
use Rattle.brl_accepted.proofs.Seen.{HasScalars, wording_low, wording_seen}
use Rattle.brl_accepted.proofs.WrittenLines.{pair_apart}
use Rattle.brl_accepted.proofs.laws.read_back_law.Goals as goal

pub returns : goal.returns
returns c listed whole of_table =
    let known = c.args.known in
    let t = known.table.now in
    let lines = map line_view known.lines.now in
    let sets = map (λ set. set.items) known.sets.now in
    let has : HasScalars t = record { rules = c.rules_law.ensures; own = c.own_law.ensures } in
    read_back (wording t lines) (wording_above t lines) (wording_seen t lines has) (wording_low t lines) t sets listed whole (pair_apart t lines) (All-map (λ cs. all_scalars cs ≡ true) (λ set. set.items) known.sets.now c.sets_law.ensures)
    of_table
