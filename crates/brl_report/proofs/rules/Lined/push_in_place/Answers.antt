use Rattle.std.proofs.Common.{◌≡◌, ◌∙◌, ◌++◌, ◌==◌, if◌then◌else◌, ℕ, List, Option, [], ap, append-nil, append_assoc, codes, eq-eqb, map, ne_eqb, refl, string_bytes, sym}
use Rattle.std.specs.Option.{option_map_or}
use Rattle.std.proofs.lemmas.Result.{on_ok_weaker}
use Rattle.brl_lines.specs.Views.{line_view}
use Rattle.brl_report.specs.Rules.{rule_note}
use Rattle.brl_report.specs.Unused.{in_place_note}
use Rattle.brl_report.proofs.rules.Lined.push_in_place.Goals as goal

pub returns-then-other-number : goal.returns-then-other-number
returns-then-other-number c =
    let t = c.args.self.now.table.now in
    let lines = map line_view c.args.self.now.lines.now in
    let note : ℕ → List ℕ = λ other. if other == c.args.number then [] else codes "  in its place:" ++ rule_note t lines other in
    let is : in_place_note t lines c.args.number ≡ [] =
    ap (λ (o : Option ℕ). option_map_or note o []) (sym c.in_ok-other.ensures ∙ c.in-Some.is) ∙ rw (eq-eqb c.in-Some.other c.args.number c.if-other-number.true) refl in
    sym (append-nil (string_bytes c.args.text.now)) ∙ ap (λ (l : List ℕ). string_bytes c.args.text.now ++ l) (sym is)

pub returns : goal.returns
returns c =
    let t = c.args.self.now.table.now in
    let lines = map line_view c.args.self.now.lines.now in
    let note : List ℕ = codes "  in its place:" ++ rule_note t lines c.in-Some.other in
    let either : ℕ → List ℕ = λ other. if other == c.args.number then [] else codes "  in its place:" ++ rule_note t lines other in
    let is : in_place_note t lines c.args.number ≡ note =
    ap (λ (o : Option ℕ). option_map_or either o []) (sym c.in_ok-other.ensures ∙ c.in-Some.is) ∙ rw (ne_eqb c.in-Some.other c.args.number c.if-other-number.false) refl in
    on_ok_weaker c.push_rule.result (λ written.
    written ∙ ap (λ (l : List ℕ). l ++ rule_note t lines c.in-Some.other) c.in_ok-push_str.ensures.bytes
    ∙ append_assoc (string_bytes c.args.text.now) (codes "  in its place:") (rule_note t lines c.in-Some.other) ∙ ap (λ (l : List ℕ). string_bytes c.args.text.now ++ l) (sym is)) c.push_rule.ensures
