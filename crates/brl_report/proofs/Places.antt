-- The files of a table's rules and characters have names.
use Rattle.std.proofs.Common.{ℕ, ◌≡◌, ◌≤◌, ◌<◌, List, length, nat_eq, Option, Some, refl, subst, sym, ◌∙◌, IfSome, option_copied, slice_get, Bor}
use Rattle.std.proofs.lemmas.Map.Entries.{All-lookup}
use Rattle.std.proofs.lemmas.Option.{slice_get_past}
use Rattle.brl_report.specs.Place.{place_text}
use Rattle.brl_report.specs.Rows.{place_of_rule}
use Rattle.brl_rules.specs.Limits.{IsEntry, IsTable}
use Rattle.brl_rules.specs.TableView.{TableView, info_of}
use Rattle.brl_rules.specs.declared.rule.Info.{Info}

pub file-of_info : (t : TableView) → IsTable t → (c : ℕ) (info : Info) → info_of t c ≡ Some info → info.file < length t.files
file-of_info t is c info e =
    (subst (λ (found : Option Info). IfSome found (IsEntry t.characters (length t.files))) e
    (All-lookup (IsEntry t.characters (length t.files)) (nat_eq c) t.characters is.parts.entries)).file_named

pub found-info : (t : TableView) (c : ℕ) (result : Option (Bor Info)) (info : Bor Info) → option_copied result ≡ info_of t c → result ≡ Some info → info_of t c ≡ Some info.now
found-info t c result info copied some = sym copied ∙ rw some refl

-- after the last rule in rank come the own definitions
pub own-place : (t : TableView) (n : ℕ) (characters : List ℕ) (c : ℕ) (info : Info) → length t.rules ≤ n → slice_get characters 0 ≡ Some c → info_of t c ≡ Some info
    → place_of_rule t (slice_get t.rules n) characters ≡ place_text t info.file info.line
own-place t n characters c info past first found = rw (slice_get_past t.rules n past, first, found) refl
