-- The files of a table's characters have names.
use Rattle.std.proofs.Common.{ℕ, ◌≡◌, ◌<◌, ◌∙◌, length, nat_eq, Option, Some, refl, subst, sym, IfSome, option_copied, Bor}
use Rattle.std.proofs.lemmas.Map.Entries.{All-lookup}
use Rattle.brl_rules.specs.Limits.{IsEntry, IsTable}
use Rattle.brl_rules.specs.TableView.{TableView, info_of}
use Rattle.brl_rules.specs.declared.rule.Info.{Info}

pub file_of_info : (t : TableView) → IsTable t → (c : ℕ) (result : Option (Bor Info)) (info : Bor Info) → option_copied result ≡ info_of t c → result ≡ Some info → info.now.file < length t.files
file_of_info t is c result info copied some =
    let found : info_of t c ≡ Some info.now = sym copied ∙ rw some refl in
    (subst (λ (x : Option Info). IfSome x (IsEntry t.characters (length t.files))) found
    (All-lookup (IsEntry t.characters (length t.files)) (nat_eq c) t.characters is.parts.entries)).file_named
