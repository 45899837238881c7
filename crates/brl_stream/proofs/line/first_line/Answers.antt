use Rattle.brl_stream.proofs.FirstLineLemmas.{front_line, front_long, open_long, open_short}
use Rattle.brl_stream.proofs.line.first_line.Goals as goal

pub returns-then-len-gt-MOST_LINE : goal.returns-then-len-gt-MOST_LINE
returns-then-len-gt-MOST_LINE c =
    let found = c.in-Some.ensures.found in
    let line = c.length_without_return-len in
    front_long c.args.bytes.now c.in-Some.feed line.result found.0 found.1 found.2 line.ensures.within line.ensures.bytes c.if-len-gt-MOST_LINE.true

pub returns-in-Some : goal.returns-in-Some
returns-in-Some c =
    let found = c.in-Some.ensures.found in
    let line = c.length_without_return-len in
    front_line c.args.bytes.now c.in-Some.feed line.result found.0 found.1 found.2 line.ensures.within line.ensures.bytes c.if-len-gt-MOST_LINE.false

pub returns-then-length_without_return-gt-MOST_LINE : goal.returns-then-length_without_return-gt-MOST_LINE
returns-then-length_without_return-gt-MOST_LINE c =
    let line = c.length_without_return in
    open_long c.args.bytes.now line.result c.in_default.ensures.none line.ensures.within line.ensures.bytes c.if-length_without_return-gt-MOST_LINE.true

pub returns-then-longer : goal.returns-then-longer
returns-then-longer c =
    let line = c.length_without_return in
    (open_short c.args.bytes.now line.result c.in_default.ensures.none line.ensures.within line.ensures.bytes c.if-length_without_return-gt-MOST_LINE.false, c.if-longer.true)

pub returns : goal.returns
returns c =
    let line = c.length_without_return in
    (open_short c.args.bytes.now line.result c.in_default.ensures.none line.ensures.within line.ensures.bytes c.if-length_without_return-gt-MOST_LINE.false, c.if-longer.false)
