-- What answers words that ask for no work. The project's own choice.
use Rattle.std.specs.Prelude.{ℕ, ◌≡◌, ◌≢◌, ◌⊎◌, IfSome, List, Option, string_bytes}
use Rattle.brl_failure.specs.declared.failure.Failure.{Failure}
use Rattle.brl_failure.specs.declared.failure.Failure.TheVariants.{Fault, Memory}
use Rattle.clap.specs.declared.error.kind.ErrorKind.{ErrorKind}
use Rattle.clap.specs.declared.error.kind.ErrorKind.TheVariants.{DisplayHelp, DisplayVersion}
use Rattle.brl_cli.specs.declared.command.NotATask.{NotATask}
use Rattle.brl_cli.specs.declared.command.NotATask.TheVariants.{Help, UseFault}

-- Whether this may answer words for which `clap` has an error of this kind, which is shown so,
-- where that is known. The text is that one, of help where the error names help or the version,
-- and else of a use fault. Or memory ran out.
abbrev pub IsReplyTo : ErrorKind → Option (List ℕ) → Failure NotATask → Type 0
IsReplyTo kind shown (Fault (Help text)) = ((kind ≡ DisplayHelp) ⊎ (kind ≡ DisplayVersion)) × IfSome shown (λ bytes. string_bytes text ≡ bytes)
IsReplyTo kind shown (Fault (UseFault text)) = (kind ≢ DisplayHelp) × (kind ≢ DisplayVersion) × IfSome shown (λ bytes. string_bytes text ≡ bytes)
IsReplyTo kind shown Memory = Unit {0}
