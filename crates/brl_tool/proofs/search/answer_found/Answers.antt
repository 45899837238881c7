use Rattle.brl_tool.proofs.SearchLemmas.{unexchanged_found}
use Rattle.std.specs.Option.{option_copied}
use Rattle.brl_without.specs.Alphabet.{alphabet_view}
use Rattle.brl_tool.proofs.search.answer_found.Goals as goal

pub returns-in-Found : goal.returns-in-Found
returns-in-Found c limit is = c.answer_of.ensures limit (rw c.in-Found.is at is)

pub returns-in-NotExchangeable : goal.returns-in-NotExchangeable
returns-in-NotExchangeable c limit is =
    let but_for = c.args.but_for in
    unexchanged_found (alphabet_view but_for.alphabet.now) (option_copied but_for.accept) but_for.excusal.now c.args.table.now limit c.args.out.now c.args.found.now c.in-NotExchangeable.fault c.in-NotExchangeable.is is c.unexchanged.result c.unexchanged.ensures
