-- The list of the rules of a table that no text uses. The project's own choice.
use Rattle.std.specs.Prelude.{ℕ, ◌==◌, if◌then◌else◌, List, ◌++◌, [], Option, None, codes, flat_map, length, option_map, slice_get, decimal}
use Rattle.std.specs.Option.{option_and_then, option_map_or}
use Rattle.brl_forward.specs.Trace.{trace_of}
use Rattle.brl_forward.specs.declared.steps.Traced.{Traced}
use Rattle.brl_lines.specs.Tokens.{LineView}
use Rattle.brl_report.specs.Rules.{rule_count, rule_entry, rule_note, rule_with_number}
use Rattle.brl_rules.specs.TableView.{TableView}
use Rattle.brl_rules.specs.Text.{is_text}

-- the rule of the first step of a text's trace
abbrev pub first_rule : TableView → List ℕ → Option ℕ
first_rule t text = if is_text t text then option_map (λ (x : Traced). x.rule) (slice_get (trace_of t text) 0) else None

-- the rule that is chosen in place of the one with a number: for its own characters as a text
abbrev pub rule_in_place : TableView → ℕ → Option ℕ
rule_in_place t number = option_and_then (λ x. first_rule t x.characters) (rule_with_number t number)

-- the note on the rule that is chosen in place of the one with a number, where that is another: it
-- may be chosen itself, and be used by no text of some characters
abbrev pub in_place_note : TableView → List LineView → ℕ → List ℕ
in_place_note t lines number =
    option_map_or (λ other. if other == number then [] else codes "  in its place:" ++ rule_note t lines other) (rule_in_place t number) []

-- the line of an unused rule: its entry, and the rule that is chosen in its place
abbrev pub unused_line : TableView → List LineView → ℕ → List ℕ
unused_line t lines number = rule_entry t lines number ++ in_place_note t lines number ++ codes "\n"

-- each of these rules is used
abbrev pub all_used : ℕ → List ℕ
all_used rules =
    if rules == 1 then codes "the one rule is used by some text\n"
    else codes "each of " ++ decimal rules ++ codes " rules is used by some text\n"

-- this number of these rules are unused
abbrev pub some_unused : ℕ → ℕ → List ℕ
some_unused unused rules =
    if unused == 1 then decimal unused ++ codes " of " ++ decimal rules ++ codes " rules is used by no text\n"
    else decimal unused ++ codes " of " ++ decimal rules ++ codes " rules are used by no text\n"

-- how many of all rules are unused
abbrev pub unused_count : ℕ → ℕ → List ℕ
unused_count unused rules = if unused == 0 then all_used rules else some_unused unused rules

-- the list of the rules with these numbers, as those that no text uses
abbrev pub unused_text : TableView → List LineView → List ℕ → List ℕ
unused_text t lines numbers = flat_map (unused_line t lines) numbers ++ unused_count (length numbers) (rule_count t)
