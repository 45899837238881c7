-- The line of a pair of rules is no note, and doesn't begin as that of a set.
use Rattle.std.proofs.Common.{◌≡◌, ◌∙◌, ◌++◌, ◌&&◌, ℕ, Bool, true, false, List, ap, append_assoc, codes, encode_utf8_all, not, refl}
use Rattle.std.proofs.lemmas.Bool.{and_parts, not-true}
use Rattle.brl_cells.specs.Dots.{spelling}
use Rattle.brl_accepted.specs.Pairs.{between, pair_line, said, wording}
use Rattle.brl_accepted.specs.Reading.{is_note}
use Rattle.brl_accepted.specs.Sets.{is_exchange}
use Rattle.brl_accepted.proofs.Said.{each_says, opcode_passes}
use Rattle.brl_lines.specs.Tokens.{LineView}
use Rattle.brl_lines.specs.Visible.{visible_text}
use Rattle.brl_report.specs.Place.{file_name}
use Rattle.brl_report.specs.Rules.{ListedView, known_opcode, opcode_at, said_rule}
use Rattle.brl_rules.specs.TableView.{TableView}
use Rattle.brl_table.specs.Words.{opcode_words}

-- a line is neither
abbrev is_apart : List ℕ → Bool
is_apart line = not (is_exchange line) && not (is_note line)

opcode : (rest word : List ℕ) → is_apart (known_opcode word ++ (codes " " ++ rest)) ≡ true
unfolding opcode_words
opcode rest word = opcode_passes (λ (w : List ℕ). is_apart (w ++ (codes " " ++ rest))) refl refl word

-- what a rule says, and what follows it in a line of two
abbrev StandsApart : List ℕ → Type 0
StandsApart one = (rest : List ℕ) → is_apart (one ++ (between ++ rest)) ≡ true

rule_apart : (t : TableView) (lines : List LineView) (x : ListedView) → StandsApart (said_rule t lines x)
rule_apart t lines x rest =
    let word = opcode_at (file_name t x.file) x.line lines in
    let more = encode_utf8_all (visible_text x.characters) ++ (codes " " ++ spelling x.cells) in
    ap is_apart (append_assoc (known_opcode word) (codes " " ++ more) (between ++ rest)) ∙ opcode (more ++ (between ++ rest)) word

-- the line of a pair of rules, of what each says
pub pair_apart : (t : TableView) (lines : List LineView) (pair : ℕ × ℕ) → (is_exchange (pair_line (wording t lines) pair) ≡ false) × (is_note (pair_line (wording t lines) pair) ≡ false)
pair_apart t lines pair =
    let line = pair_line (wording t lines) pair in
    let (set, note) = and_parts (not (is_exchange line)) (not (is_note line)) (each_says StandsApart t lines (λ rest. refl) (λ n x is. rule_apart t lines x) pair.0 (said (wording t lines) pair.1)) in
    (not-true (is_exchange line) set, not-true (is_note line) note)
