use Rattle.brl_without.proofs.Spans.{all_read, one_more_read}
use Rattle.brl_without.proofs.span.spans_of.Goals as goal

pub loop-first-preserved : goal.loop-first-preserved
loop-first-preserved c =
    one_more_read c.args.characters.now c.loop-first.left.now c.in-Some.rest.now c.end_of_span-last.result.1.now c.in-Some.first.now c.end_of_span-last.result.0 c.loop-first.spans.items c.push.new.self.items c.loop-first.invariant
    c.in-Some.ensures.cases.0 c.end_of_span-last.ensures.last c.end_of_span-last.ensures.after c.in_ok-push.ensures.items

pub returns : goal.returns
returns c = all_read c.args.characters.now c.loop-first.left.now c.loop-first.spans.items c.loop-first.invariant c.in_default.ensures.cases
