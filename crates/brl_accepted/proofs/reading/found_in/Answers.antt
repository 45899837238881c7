use Rattle.std.proofs.Common.{◌≡◌, ◌∙◌, All, IfOk, List, ℕ, ap, map, string_bytes, subst, sym}
use Rattle.std.specs.Option.{option_copied}
use Rattle.brl_lines.specs.Views.{line_view}
use Rattle.brl_report.specs.Rules.{rule_numbers}
use Rattle.brl_accepted.specs.Pairs.{said}
use Rattle.brl_accepted.specs.Words.{AreFound, IsIndex, IsThreeWords}
use Rattle.brl_accepted.proofs.Plain.{wording_words}
use Rattle.brl_accepted.proofs.reading.found_in.Goals as goal

pub read_rows-requires : goal.read_rows-requires
read_rows-requires c =
    let known = c.args.known in
    record {
      words = subst (λ (words : List (List ℕ)). All (λ number. IsThreeWords (said words number)) (rule_numbers known.table.now)) (sym c.requires) (wording_words known.table.now (map line_view known.lines.now));
      index = subst (λ (numbers : List ℕ). IsIndex (map string_bytes c.args.words.now) numbers c.in_ok-index.index) (c.as_slice.ensures.value ∙ c.in_ok-numbers.ensures) c.in_ok-index.ensures;
    }

pub returns : goal.returns
returns c =
    let known = c.args.known in
    subst (λ (words : List (List ℕ)). IfOk c.read_rows.result
    (AreFound (record { table = known.table.now; words = words; sets = map (λ set. set.items) known.sets.now }) (option_copied c.args.list) c.args.path.now (map (λ row. row.now) c.args.rows.now))) c.requires c.read_rows.ensures
