use Rattle.std.proofs.Common.{◌≡◌, ◌∙◌, ◌++◌, ℕ, List, ap, filter, string_bytes, subst, sym}
use Rattle.std.specs.Io.KnownBytes.{Appends}
use Rattle.brl_clashes.proofs.Showings.{after_head, failed_at_head, memory_at_list}
use Rattle.brl_clashes.specs.ClashesText.{IsHead, IsTop, sets_in}
use Rattle.brl_clashes.specs.Sets.{firsts_of, is_plain, plain}
use Rattle.brl_clashes.specs.Showing.{Asked, asked_of}
use Rattle.brl_clashes.proofs.showing.show_list.Goals as goal

-- what comes before the sections, as the code has it
head_is : (asked : Asked) (characters head : List ℕ) → characters ≡ plain asked.table asked.left_out → (top : List ℕ) × IsTop asked.form top × (head ≡ top ++ sets_in asked.form asked.table characters) → IsHead asked.table asked.left_out asked.form head
head_is asked characters head are (top, is, e) = (top, is, e ∙ ap (λ (cs : List ℕ). top ++ sets_in asked.form asked.table cs) are)

pub returns-in_err-kept-clause-shows : goal.returns-in_err-kept-clause-shows
returns-in_err-kept-clause-shows g c = memory_at_list (asked_of c.args.asked) (g.O.Output.contents c.args.out.now) c.from_residual.result c.from_residual.ensures.1

pub returns-in_err-plain-clause-shows : goal.returns-in_err-plain-clause-shows
returns-in_err-plain-clause-shows g c = memory_at_list (asked_of c.args.asked) (g.O.Output.contents c.args.out.now) c.from_residual-in_err-plain.result c.from_residual-in_err-plain.ensures.1

pub returns-in_err-head-clause-shows : goal.returns-in_err-head-clause-shows
returns-in_err-head-clause-shows g c = memory_at_list (asked_of c.args.asked) (g.O.Output.contents c.args.out.now) c.from_residual-in_err-head.result c.from_residual-in_err-head.ensures.1

pub returns-in_err-firsts-clause-shows : goal.returns-in_err-firsts-clause-shows
returns-in_err-firsts-clause-shows g c = memory_at_list (asked_of c.args.asked) (g.O.Output.contents c.args.out.now) c.from_residual-in_err-firsts.result c.from_residual-in_err-firsts.ensures.1

pub returns-in_err-put-clause-shows : goal.returns-in_err-put-clause-shows
returns-in_err-put-clause-shows g c =
    let asked = asked_of c.args.asked in
    let t = asked.table in
    let (front, rest, parts, writes) = c.in_err-put.ensures.err in
    let plain_are : c.as_slice-plain.result.now ≡ plain t asked.left_out = c.as_slice-plain.ensures.value ∙ c.in_ok-plain.ensures ∙ ap (filter (is_plain t)) c.in_ok-kept.ensures in
    failed_at_head asked (string_bytes c.in_ok-head.head) (head_is asked c.as_slice-plain.result.now (string_bytes c.in_ok-head.head) plain_are c.in_ok-head.ensures) (g.O.Output.contents c.args.out.now) (g.O.Output.contents c.put.new.self) front rest
    (sym c.as_bytes.ensures.value ∙ parts) writes c.from_residual-in_err-put.result c.from_residual-in_err-put.ensures.1

pub show_after_head-requires : goal.show_after_head-requires
show_after_head-requires g c =
    let t = c.args.asked.table.now in
    let plain_are : c.as_slice-plain.result.now ≡ plain t c.args.asked.left_out.now = c.as_slice-plain.ensures.value ∙ c.in_ok-plain.ensures ∙ ap (filter (is_plain t)) c.in_ok-kept.ensures in
    c.in_ok-firsts.ensures ∙ ap (firsts_of t) plain_are

pub returns-clause-shows : goal.returns-clause-shows
returns-clause-shows g c =
    let asked = asked_of c.args.asked in
    let t = asked.table in
    let plain_are : c.as_slice-plain.result.now ≡ plain t asked.left_out = c.as_slice-plain.ensures.value ∙ c.in_ok-plain.ensures ∙ ap (filter (is_plain t)) c.in_ok-kept.ensures in
    let writes = subst (λ (bytes : List ℕ). Appends (g.O.Output.contents c.args.out.now) (g.O.Output.contents c.put.new.self) bytes) c.as_bytes.ensures.value c.in_ok-put.ensures.ok in
    after_head asked (string_bytes c.in_ok-head.head) (head_is asked c.as_slice-plain.result.now (string_bytes c.in_ok-head.head) plain_are c.in_ok-head.ensures) (g.O.Output.contents c.args.out.now) (g.O.Output.contents c.put.new.self)
    (g.O.Output.contents c.show_after_head.new.out) writes c.show_after_head.result c.show_after_head.ensures.shows
