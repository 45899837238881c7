-- A certificate is closed but for more than what it is closed but for.
use Rattle.brl_accept.specs.Kinds.{OfMachine}
use Rattle.brl_closure.specs.Excusing.{ExcusesAll, IsClosedBody}
use Rattle.brl_closure.proofs.MoreExcused.{closed_with_more}
use Rattle.brl_dues.specs.Steps.{dues_machine}
use Rattle.brl_pairs.specs.declared.excused.Excused.{Excused}
use Rattle.brl_rules.specs.TableView.{TableView}
use Rattle.brl_states.specs.declared.cert.Cert.{Cert as Certificate}
use Rattle.brl_states.specs.declared.cert.Cert.TheVariants.{Dues, Window, Word}
use Rattle.brl_window.specs.Windows.{window_machine}
use Rattle.brl_without.specs.Without.{without}
use Rattle.std.proofs.Common.{ℕ, List}

pub closed_too : (left_out : List ℕ) (excused more : Excused) → ExcusesAll more excused → (t : TableView) (cert : Certificate)
    → OfMachine (λ S m body. IsClosedBody (without left_out m) excused body) t cert → OfMachine (λ S m body. IsClosedBody (without left_out m) more body) t cert
closed_too left_out excused more all t (Window body) closed = closed_with_more excused more all (without left_out (window_machine t)) body closed
closed_too left_out excused more all t (Dues body) closed = closed_with_more excused more all (without left_out (dues_machine t)) body closed
closed_too left_out excused more all t (Word body) closed = closed_with_more excused more all (without left_out (dues_machine t)) body closed
