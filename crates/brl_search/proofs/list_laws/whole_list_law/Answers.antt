use Rattle.brl_search.proofs.WholeList.{just_those, one_list}
use Rattle.brl_search.proofs.list_laws.whole_list_law.Goals as goal

pub returns-clause-just : goal.returns-clause-just
returns-clause-just c left_out t limit list body clashes whole = just_those left_out t list clashes whole.no_other

pub returns-clause-one : goal.returns-clause-one
returns-clause-one c left_out t limit most list other body bodies clashes whole clashes_too whole_too =
    one_list left_out t list other clashes clashes_too (just_those left_out t list clashes whole.no_other) (just_those left_out t other clashes_too whole_too.no_other)
