use Rattle.std.proofs.Common.{Option, None, Some, IfNone}
use Rattle.brl_stream.proofs.FirstLineLemmas.{feed_none, feed_found}
use Rattle.brl_stream.proofs.line.find_feed.Goals as goal

on_none : {T P : Type 0} (r : Option T) → P → IfNone r P
on_none (Some x) p = tt
on_none None p = p

pub returns-in_err-ahead-clause-none : goal.returns-in_err-ahead-clause-none
returns-in_err-ahead-clause-none c =
    on_none c.from_residual.result (feed_none c.args.bytes.now c.args.scanned c.requires.plain c.requires.within c.in_err-ahead.ensures)

pub returns-clause-found : goal.returns-clause-found
returns-clause-found c =
    let at = c.in_ok-ahead.ensures in
    feed_found c.args.bytes.now c.args.scanned c.requires.plain c.requires.within c.in_ok-ahead.ahead at.0.high at.1 at.0.before
