-- What the states of a dues machine share, as any machine with bases says it. That the machine
-- keeps the laws of bases is proved. The project's own choice.
use Rattle.std.specs.Prelude.{ℕ, Bool, List, [], ◌∷◌, ◌++◌, Option, Some, None, map, option_map}
use Rattle.brl_pairs.specs.Based.{Sharing}
use Rattle.brl_pairs.specs.declared.based.Past.{Past}
use Rattle.brl_pairs.specs.declared.based.Past.TheVariants.{Broken, Same, More}
use Rattle.brl_rules.specs.TableView.{TableView}
use Rattle.brl_rules.specs.Text.{classes_at}
use Rattle.brl_states.specs.declared.due.Due.{Due}
use Rattle.brl_states.specs.declared.dues_state.DuesState.{DuesState}
use Rattle.brl_states.specs.Order.{due_chars, in_order}
use Rattle.brl_dues.specs.Contexts.{bars, base_of, new_to, opens}
use Rattle.brl_dues.specs.Letters.{left_past}

-- the number of the gate of what a step reads: the classes of the first character
abbrev pub gate_number : TableView → List ℕ → ℕ
gate_number t reads = (classes_at t reads 0).0

-- whether a state opens the gate with a number
abbrev pub opens_number : DuesState → ℕ → Bool
opens_number s gate = opens s (record { 0 = gate })

-- the characters of a state's bars
abbrev pub bar_chars : DuesState → List (List ℕ)
bar_chars s = map due_chars (bars s)

-- what bars leave past a step that isn't owed anyway, in order; none where one is broken
abbrev pub past_by : Option (List Due) → Past (List Due)
past_by None = Broken
past_by (Some []) = Same
past_by (Some (due ∷ dues)) = More (in_order (due ∷ dues))

-- what the bars of a state leave past a step that reads these characters, but for what its next
-- state owes
abbrev pub past_bars : TableView → DuesState → List ℕ → DuesState → Past (List Due)
past_bars t s reads next = past_by (option_map (new_to next.dues) (left_past t reads (bars s)))

-- the state with more dues, in order and each once
abbrev pub owing_more : DuesState → List Due → DuesState
owing_more next dues = record next { dues = in_order (next.dues ++ dues) }

-- what the states of the machine share
abbrev pub dues_sharing : TableView → Sharing DuesState (List Due)
dues_sharing t = record {
  base = λ s. Some (base_of t s);
  gate = gate_number t;
  opens = opens_number;
  bars = bar_chars;
  past = past_bars t;
  owing = owing_more;
}
