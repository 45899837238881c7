use Rattle.std.proofs.Common.{◌≡◌, ◌∙◌, Bool, ap, arith, cond, length, map, nat_lt, sym, vec_len}
use Rattle.brl_lines.specs.Views.{line_view}
use Rattle.brl_table.specs.Reading.{defined_characters, definitions}
use Rattle.brl_table.specs.Survey.{faulty_line_view, faulty_lines, has_characters, passes_first, unresolved_lines}
use Rattle.brl_table.proofs.UnresolvedSteps.{all-good, passes, passes-is}
use Rattle.brl_table.proofs.faulty.survey.Goals as goal
use Rattle.brl_table.proofs.faulty.survey.Goals.{then-passes_first+in_ok-faulty, else-passes_first}

pub find_unresolved-requires-clause-passed : goal.find_unresolved-requires-clause-passed
find_unresolved-requires-clause-passed c =
    let own = c.in_ok-own.own in
    let count : vec_len own ≡ length own.items = omega (arith, own.ok.0) in
    passes (map line_view c.args.lines.now) own.items c.in_ok-own.ensures.found (vec_len own) count (sym c.is_empty-passes_first.ensures ∙ c.if-passes_first.true)

pub find_unresolved-requires-clause-all : goal.find_unresolved-requires-clause-all
find_unresolved-requires-clause-all c =
    let own = c.in_ok-own.own in
    let count : vec_len own ≡ length own.items = omega (arith, own.ok.0) in
    let lines = map line_view c.args.lines.now in
    let passed = passes lines own.items c.in_ok-own.ensures.found (vec_len own) count (sym c.is_empty-passes_first.ensures ∙ c.if-passes_first.true) in
    c.in_ok-own.ensures.good ∙ all-good lines passed

pub returns : goal.returns
returns c =
    let own = c.in_ok-own.own in
    let count : vec_len own ≡ length own.items = omega (arith, own.ok.0) in
    let lines = map line_view c.args.lines.now in
    let built = c.find_faulty.new.builder in
    let passes : c.is_empty-passes_first.result ≡ passes_first lines =
    c.is_empty-passes_first.ensures ∙ sym (passes-is lines own.items c.in_ok-own.ensures.found (vec_len own) count) in
    let one_of = λ (b : Bool). cond b (unresolved_lines lines) (faulty_lines lines) in
    let faulty : map faulty_line_view c.if-passes_first.faulty.items ≡ one_of (passes_first lines) =
    elim c.if-passes_first.branch [
      | then-passes_first+in_ok-faulty w ↦
          (ap (λ v. map faulty_line_view v.items) w.faulty-is ∙ w.in_ok-faulty.ensures ∙ ap one_of (sym w.if-passes_first.true ∙ passes))
      | else-passes_first w ↦
          (ap (λ v. map faulty_line_view v.items) w.faulty-is ∙ c.in_ok-own.ensures.found ∙ ap one_of (sym w.if-passes_first.false ∙ passes))
    ] in
    let characters : c.has_characters-has_characters.result ≡ has_characters lines =
    c.has_characters-has_characters.ensures built.items.items c.in_ok-own.ensures.represents
    ∙ ap (λ items. nat_lt 0 (length (defined_characters (definitions items)))) c.in_ok-own.ensures.good in
    λ j. record { faulty = faulty j; passes_first = passes j; has_characters = characters j }
