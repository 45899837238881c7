-- When a certificate is accepted where some splits are excused, and what it shows then. The
-- project's own choice.
use Rattle.std.specs.Prelude.{ℕ, List}
use Rattle.brl_accept.specs.Judging.{IsAcceptedFor, IsRefusedFor, Terms}
use Rattle.brl_accept.specs.Kinds.{HasVersion, OfMachine}
use Rattle.brl_accept.specs.declared.judge_fault.JudgeFault.{JudgeFault}
use Rattle.brl_closure.specs.Excusing.{IsClosedBody, IsRefusedUpTo as IsRefusedBody}
use Rattle.brl_closure.specs.declared.check.checker.Accepted.{Accepted}
use Rattle.brl_pairs.specs.declared.excused.Excused.{Excused}
use Rattle.brl_rules.specs.TableView.{TableView}
use Rattle.brl_states.specs.declared.cert.Cert.{Cert as Certificate}
use Rattle.brl_states.specs.declared.cert.Cert.TheVariants.{Dues, Window, Word}
use Rattle.brl_traces.specs.Exchanges.{TextsAgreeBut}
use Rattle.brl_without.specs.Scope.{IsNothing}
use Rattle.brl_without.specs.Tables.{IsUnambiguousWithout}
use Rattle.brl_without.specs.Without.{without}

-- Any two texts over the table's other characters that it translates to the same cells have traces
-- that are the same but for exchanges, to their ends or up to a place where they go on with two
-- steps of an accepted pair of rules. Where nothing is excused they are equal.
abbrev pub IsShown : List ℕ → Excused → TableView → Type 0
IsShown left_out excused t = TextsAgreeBut left_out excused.exchanged excused.accepted t × (IsNothing excused → IsUnambiguousWithout left_out t)

-- something is excused only of certificates that list states of the machine with dues, whose paths
-- are traces
abbrev pub MayExcuse : Excused → Certificate → Type 0
MayExcuse excused (Window body) = IsNothing excused
MayExcuse excused (Dues body) = Unit {0}
MayExcuse excused (Word body) = Unit {0}

-- the states and pairs are closed for the machine without these characters, but for splits that are
-- excused
abbrev pub closed_up_to : List ℕ → Excused → Terms
closed_up_to left_out excused = record {
  left_out = left_out;
  IsFor = λ t cert. HasVersion t cert × MayExcuse excused cert;
  IsClosed = OfMachine (λ S m body. IsClosedBody (without left_out m) excused body);
  IsRefused = λ fault. OfMachine (λ S m body. IsRefusedBody (without left_out m) excused body fault);
}

-- the bytes spell a certificate that is so closed, with these numbers of states and pairs
abbrev pub IsAcceptedUpTo : List ℕ → Excused → TableView → List ℕ → Accepted → Type 0
IsAcceptedUpTo left_out excused = IsAcceptedFor (closed_up_to left_out excused)

-- the fault of the first stage that refuses the bytes for a table
abbrev pub IsRefusedUpTo : List ℕ → Excused → TableView → List ℕ → JudgeFault → Type 0
IsRefusedUpTo left_out excused = IsRefusedFor (closed_up_to left_out excused)
