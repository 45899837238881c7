use Rattle.brl_accept.proofs.MoreAccepted.{closed_too}
use Rattle.brl_accept.proofs.laws.more_accepted_law.Goals as goal

pub returns : goal.returns
returns c left_out excused more t bytes accepted all may (defined, (cert, read, (version, excuses), (machine, closed, counted))) =
    (defined, (cert, read, (version, may cert read), (machine, closed_too left_out excused more all t cert closed, counted)))
