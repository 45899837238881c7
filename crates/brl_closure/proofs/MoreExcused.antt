-- What is excused may grow.
use Rattle.std.proofs.Common.{inl, inr}
use Rattle.brl_closure.specs.Excusing.{ExcusesAll, IsClosedBody}
use Rattle.brl_pairs.specs.Body.{BodyView}
use Rattle.brl_pairs.specs.Exchanges.{AreExcused}
use Rattle.brl_pairs.specs.Runs.{Behaviour}
use Rattle.brl_pairs.specs.declared.excused.Excused.{Excused}
use Rattle.brl_pairs.specs.declared.step.Step.{Step}

module _ {S : Type 0} (excused more : Excused) (all : ExcusesAll more excused) where
  excused_too : (x y : Step S) → AreExcused excused.exchanged excused.accepted x y → AreExcused more.exchanged more.accepted x y
  excused_too x y (inl have) = inl (all.accepted x.rule y.rule have)
  excused_too x y (inr may) = inr (record { rules = all.exchanged x.rule y.rule may.rules; cells = may.cells; next = may.next })

  pub closed_with_more : (m : Behaviour S) (body : BodyView S) → IsClosedBody m excused body → IsClosedBody m more body
  closed_with_more m body closed = record {
    start = closed.start;
    steps = closed.steps;
    splits = λ s p has h. elim (closed.splits s p has h) [ inl one ↦ inl (excused_too h.longer h.shorter one) | inr there ↦ inr there ];
    moves = closed.moves;
    ends = closed.ends;
  }
