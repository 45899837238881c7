-- When a certificate is accepted for the table that files define, and why it is refused. The
-- project's own choice.
use Rattle.std.specs.Prelude.{ℕ, ◌≡◌, List, [], Result, Ok, Err}
use Rattle.brl_closure.specs.Refusals.{IsRefused}
use Rattle.brl_states.specs.Counts.{pair_count, state_count}
use Rattle.brl_accept.specs.Kinds.{HasMachine, HasVersion, OfMachine}
use Rattle.brl_closure.specs.declared.check.fault.AcceptFault.{AcceptFault}
use Rattle.brl_closure.specs.declared.check.checker.Accepted.{Accepted}
use Rattle.brl_accept.specs.declared.judge_fault.JudgeFault.{JudgeFault}
use Rattle.brl_accept.specs.declared.judge_fault.JudgeFault.TheVariants.{NoTable, NotDefined, Cert, OldVersion, Wide, Refused}
use Rattle.brl_cert.specs.Reading.{reading}
use Rattle.brl_states.specs.declared.cert.Cert.{Cert as Certificate}
use Rattle.brl_failure.specs.declared.failure.Failure.{Failure}
use Rattle.brl_failure.specs.declared.failure.Failure.TheVariants.{Fault, Memory}
use Rattle.brl_lines.specs.Answer.{FileAnswers}
use Rattle.brl_lines.specs.declared.fault.LoadFault.{LoadFault}
use Rattle.brl_table.specs.Faults.{IsFaultAt, load_outcome as outcome_at}
use Rattle.brl_table.specs.Files.{IsTableOf}
use Rattle.brl_pairs.specs.Pairs.{IsClosed}
use Rattle.brl_pairs.specs.Sets.{sets_of}
use Rattle.brl_rules.specs.TableView.{TableView}
use Rattle.brl_without.specs.Tables.{AreDefined, IsUndefined}
use Rattle.brl_without.specs.Without.{without}

-- the numbers of states and pairs that a certificate lists
abbrev pub counted : Certificate → Accepted
counted cert = record { states = state_count cert; pairs = pair_count cert }

-- What is asked of a certificate: the characters that the texts don't use, none where all texts of
-- a table are meant; for which tables its version is; and when it is closed for one, or refused.
pub record Terms : Type 1 where
  pub left_out : List ℕ
  pub IsFor : TableView → Certificate → Type 0
  pub IsClosed : TableView → Certificate → Type 0
  pub IsRefused : AcceptFault → TableView → Certificate → Type 0

module _ (terms : Terms) where
  -- the table has the machine of its version, the states and pairs are closed, and have these
  -- numbers
  abbrev pub IsProved : TableView → Certificate → Accepted → Type 0
  IsProved t cert accepted = HasMachine t cert × terms.IsClosed t cert × (accepted ≡ counted cert)

  -- its version isn't for the table, or else the table is too wide for its machine, or it isn't
  -- closed
  abbrev pub IsRefusedAs : TableView → Certificate → JudgeFault → Type 0
  IsRefusedAs t cert OldVersion = terms.IsFor t cert → ⊥
  IsRefusedAs t cert (Wide fault) = terms.IsFor t cert × (HasMachine t cert → ⊥)
  IsRefusedAs t cert (Refused fault) = terms.IsFor t cert × HasMachine t cert × terms.IsRefused fault t cert
  IsRefusedAs t cert fault = ⊥

  -- the table defines what is left out, and the bytes spell a certificate of a version for the
  -- table that proves it, with these numbers of states and pairs
  abbrev pub IsAcceptedFor : TableView → List ℕ → Accepted → Type 0
  IsAcceptedFor t bytes accepted =
      AreDefined t terms.left_out × ((cert : Certificate) × (reading bytes ≡ Ok cert) × terms.IsFor t cert × IsProved t cert accepted)

  -- what is left out isn't defined, or else the bytes spell no certificate, or one that is refused
  abbrev pub IsRefusedFor : TableView → List ℕ → JudgeFault → Type 0
  IsRefusedFor t bytes (NotDefined fault) = IsUndefined t terms.left_out fault
  IsRefusedFor t bytes (Cert fault) = AreDefined t terms.left_out × (reading bytes ≡ Err fault)
  IsRefusedFor t bytes fault = AreDefined t terms.left_out × ((cert : Certificate) × (reading bytes ≡ Ok cert) × IsRefusedAs t cert fault)

  -- the fault of the first stage that refuses: there is no table at the path, or the bytes are
  -- refused for the table that is there, and so they aren't accepted for it
  abbrev pub IsFirstFault : FileAnswers → List ℕ → List ℕ → JudgeFault → Type 0
  IsFirstFault gives root bytes (NoTable fault) = IsFaultAt gives root fault
  IsFirstFault gives root bytes fault =
      (t : TableView) × IsTableOf gives root t × IsRefusedFor t bytes fault × ((accepted : Accepted) → IsAcceptedFor t bytes accepted → ⊥)

-- the states and pairs are closed for the machine without these characters
abbrev pub closed_without : List ℕ → Terms
closed_without left_out = record {
  left_out = left_out;
  IsFor = HasVersion;
  IsClosed = OfMachine (λ S m body. IsClosed (without left_out m) (sets_of body));
  IsRefused = λ fault. OfMachine (λ S m body. IsRefused (without left_out m) body fault);
}

-- acceptance and the first fault, for all texts
abbrev pub IsAccepted : TableView → List ℕ → Accepted → Type 0
IsAccepted = IsAcceptedFor (closed_without [])

abbrev pub IsRefusedBy : FileAnswers → List ℕ → List ℕ → JudgeFault → Type 0
IsRefusedBy = IsFirstFault (closed_without [])

-- how the loading of the files ended
abbrev pub load_outcome : {T : Type 0} → Result T (Failure JudgeFault) → Result (Unit {0}) (Failure LoadFault)
load_outcome (Err (Fault (NoTable fault))) = outcome_at {T = Unit {0}} (Err (Fault fault))
load_outcome (Err Memory) = Err Memory
load_outcome outcome = Ok tt
