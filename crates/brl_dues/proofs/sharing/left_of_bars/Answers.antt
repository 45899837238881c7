use Rattle.std.proofs.Common.{◌≡◌, ◌∙◌, ◌<◌, ℕ, false, true, [], List, ap, get_or, length, map, subst, sym}
use Rattle.std.proofs.lemmas.List.{get_or_default}
use Rattle.std.proofs.lemmas.List.Elements.{All-get_or}
use Rattle.brl_rules.specs.declared.place.Cond.TheVariants.{Any}
use Rattle.brl_states.specs.declared.due.Due.TheVariants.{Need}
use Rattle.brl_dues.specs.declared.carry.Carried.{Carried}
use Rattle.brl_dues.specs.Adding.{Adds}
use Rattle.brl_dues.specs.Carry.{carry}
use Rattle.brl_dues.proofs.Adding.{HasAdded, adds-all, adds-broken, has-more, has-none}
use Rattle.brl_dues.proofs.Gathering.{past-proper}
use Rattle.brl_dues.proofs.Past.{broken-past, whole-past}
use Rattle.brl_dues.proofs.SharingLaws.{carried-by-number, read-proper}
use Rattle.brl_dues.proofs.sharing.left_of_bars.Goals.{After-carry}
use Rattle.brl_dues.proofs.sharing.left_of_bars.Goals as goal

pub loop-number-init : goal.loop-number-init
loop-number-init c = subst (HasAdded [] []) (sym c.new-left.ensures.items) (has-none [])

pub bounds-bars-number : goal.bounds-bars-number
bounds-bars-number c = All-get_or (λ n. n < length c.args.bars.now) c.args.met.now c.loop-number.number-index 0 c.loop-number-test.true c.requires.within

-- the due that is read
read : (c : After-carry) → c.index-bars-number.result ≡ get_or c.args.bars.now (get_or c.args.met.now c.loop-number.number-index 0) (Need Any)
read c =
    let bars = c.args.bars.now in
    let less : get_or c.args.met.now c.loop-number.number-index 0 < length bars =
    All-get_or (λ n. n < length bars) c.args.met.now c.loop-number.number-index 0 c.loop-number-test.true c.requires.within in
    c.index-bars-number.is ∙ get_or_default bars (get_or c.args.met.now c.loop-number.number-index 0) c.index-bars-number.result (Need Any) less

pub loop-number-preserved : goal.loop-number-preserved
loop-number-preserved c =
    let g : ℕ → Carried = λ n. carry c.args.table.now c.args.reads.now (get_or c.args.bars.now n (Need Any)) in
    has-more g c.args.met.now c.loop-number.number-index 0 c.in_ok-carry.field-0 c.in_ok-add.field-0 _ _ _
    c.loop-number-test.true (c.in_ok-carry.ensures ∙ ap (carry c.args.table.now c.args.reads.now) (read (goal.at.loop-number-preserved c).After-carry)) c.loop-number.invariant c.in_ok-add.ensures c.if-not-branch.false

pub returns-then-not-branch-clause-left : goal.returns-then-not-branch-clause-left
returns-then-not-branch-clause-left c =
    let t = c.args.table.now in
    let past = c.args.reads.now in
    let bars = c.args.bars.now in
    let g : ℕ → Carried = λ n. carry t past (get_or bars n (Need Any)) in
    broken-past t past (map (λ n. get_or bars n (Need Any)) c.args.met.now) []
    (subst (λ (l : List Carried). Adds l [] [] false) (carried-by-number t past bars (Need Any) c.args.met.now)
    (adds-broken g c.args.met.now c.loop-number.number-index 0 c.in_ok-carry.field-0 c.in_ok-add.field-0 _ _ _ _
    c.loop-number-test.true (c.in_ok-carry.ensures ∙ ap (carry t past) (read (goal.at.returns-then-not-branch-clause-left c).After-carry)) c.loop-number.invariant c.in_ok-add.ensures c.if-not-branch.true))

pub returns-clause-left : goal.returns-clause-left
returns-clause-left c =
    let t = c.args.table.now in
    let past = c.args.reads.now in
    let bars = c.args.bars.now in
    whole-past t past (map (λ n. get_or bars n (Need Any)) c.args.met.now) c.loop-number.left.items
    (subst (λ (l : List Carried). Adds l [] c.loop-number.left.items true) (carried-by-number t past bars (Need Any) c.args.met.now)
    (adds-all (λ n. carry t past (get_or bars n (Need Any))) c.args.met.now c.loop-number.number-index _ _ c.loop-number-test.false c.loop-number.invariant))

pub returns-clause-proper : goal.returns-clause-proper
returns-clause-proper c =
    let t = c.args.table.now in
    let past = c.args.reads.now in
    let bars = c.args.bars.now in
    past-proper t past (map (λ n. get_or bars n (Need Any)) c.args.met.now) c.loop-number.left.items (read-proper bars (Need Any) c.args.met.now c.requires.proper c.requires.within)
    (subst (λ (l : List Carried). Adds l [] c.loop-number.left.items true) (carried-by-number t past bars (Need Any) c.args.met.now)
    (adds-all (λ n. carry t past (get_or bars n (Need Any))) c.args.met.now c.loop-number.number-index _ _ c.loop-number-test.false c.loop-number.invariant))
