-- Internal. What surveys of files find, as the code has it.
use Rattle.std.specs.Prelude.{ℕ, ◌≡◌, List, map, Ok, Err}
use Rattle.brl_lines.specs.Lines.{location_of}
use Rattle.brl_lines.specs.Tokens.{LineView}
use Rattle.brl_lines.specs.Views.{load_fault_view, location_view}
use Rattle.brl_lines.specs.declared.fault.LoadFault.{LoadFault}
use Rattle.brl_table.specs.Survey.{faulty_line_view, survey_of}
use Rattle.brl_cut.specs.Edits.{Texts}
use Rattle.brl_cut.specs.Settling.{IsSettled, after_rounds, lines_among}
use Rattle.brl_cut.specs.declared.rounds.Settled.{Settled}
use Rattle.brl_cut.specs.declared.rounds.Surveyed.{Surveyed}

-- a survey of the table of these files found this
abbrev pub IsSurveyed : List (List ℕ) → List ℕ → Texts → Surveyed → Type 0
IsSurveyed folders root files found =
    (lines : List LineView) × (lines_among folders files root ≡ Ok lines) × (map faulty_line_view found.faulty.items ≡ (survey_of lines).faulty)
    × (map location_view found.places.items ≡ map location_of lines)

-- files were settled, with these faulty lines, and with the lines whose places are these
abbrev pub SettlesTo : List (List ℕ) → List ℕ → Texts → Settled → Type 0
SettlesTo folders root files settled =
    (lines : List LineView) × (texts : Texts) × IsSettled folders root files texts (map faulty_line_view settled.found.items) lines
    × (map location_view settled.places.items ≡ map location_of lines)

-- files can't be settled: after some rounds the table can't be loaded
abbrev pub IsUnsettled : List (List ℕ) → List ℕ → Texts → LoadFault → Type 0
IsUnsettled folders root files fault = (rounds : ℕ) × (lines_among folders (after_rounds rounds folders root files) root ≡ Err (load_fault_view fault))
