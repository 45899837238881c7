-- A fault of a line with its place, and its text. The project's own choice.
use Rattle.std.specs.Prelude.{ℕ, List, ◌++◌, codes, string_bytes, decimal}
use Rattle.brl_table.specs.Items.{Fault, fault}
use Rattle.brl_table.specs.declared.table_fault.TableFault.{TableFault}
use Rattle.brl_table.specs.declared.table_fault.TableFaultKind.{TableFaultKind}
use Rattle.brl_table.specs.declared.table_fault.TableFaultKind.TheVariants.{OutsideProfile, MissingOperand, BadCharacters, BadDots, UndefinedInRule, UndefinedInList, TwoRoles, TooMany, IndicatorTwice}

-- a fault, with the file and the number of its line
pub record LocatedFault : Type 0 where
  pub fault : Fault
  pub file : List ℕ
  pub line : ℕ

-- a fault of a table, as the code has it
abbrev pub located_fault : TableFault → LocatedFault
located_fault found = record { fault = fault found.kind (string_bytes found.subject); file = string_bytes found.file; line = found.line }

-- the code and the name of a kind of fault
abbrev pub kind_text : TableFaultKind → List ℕ
kind_text OutsideProfile = codes "B1 OutsideProfile"
kind_text MissingOperand = codes "B2 MissingOperand"
kind_text BadCharacters = codes "B3 BadCharacters"
kind_text BadDots = codes "B4 BadDots"
kind_text UndefinedInRule = codes "B5 UndefinedInRule"
kind_text UndefinedInList = codes "B6 UndefinedInList"
kind_text TwoRoles = codes "B7 TwoRoles"
kind_text TooMany = codes "B8 TooMany"
kind_text IndicatorTwice = codes "B9 IndicatorTwice"

-- the text of a fault, as `B1 OutsideProfile pass2 at t.ctb:1`
abbrev pub fault_text : LocatedFault → List ℕ
fault_text found = kind_text found.fault.kind ++ (codes " " ++ (found.fault.subject ++ (codes " at " ++ (found.file ++ (codes ":" ++ decimal found.line)))))
