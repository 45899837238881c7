-- How the definitions see the tokens, lines, places and faults of the code. The project's own.
use Rattle.std.specs.Prelude.{map, option_map, string_bytes}
use Rattle.brl_lines.specs.Lines.{LocationView, Refusal, refusal}
use Rattle.brl_lines.specs.Tokens.{LineView, TokenView}
use Rattle.brl_lines.specs.declared.fault.LoadFault.{LoadFault}
use Rattle.brl_lines.specs.declared.fault.Location.{Location}
use Rattle.brl_lines.specs.declared.line.Line.{Line}
use Rattle.brl_lines.specs.declared.line.Token.{Token}
use Rattle.brl_lines.specs.declared.fault.LocationRef.{LocationRef}

-- a token
abbrev pub token_view : Token → TokenView
token_view t = record { text = t.text.now; start = t.start }

-- a line
abbrev pub line_view : Line → LineView
line_view l = record { file = l.file.now; line = l.line; opcode = token_view l.opcode; operands = map token_view l.operands.items }

-- a line of a file
abbrev pub location_view : Location → LocationView
location_view p = record { file = string_bytes p.file; line = p.line }

-- a line of a file that is borrowed
abbrev pub location_ref_view : LocationRef → LocationView
location_ref_view s = record { file = s.file.now; line = s.line }

-- why a table has no lines
abbrev pub load_fault_view : LoadFault → Refusal
load_fault_view fault = refusal fault.kind (string_bytes fault.path) (option_map location_view fault.place)
