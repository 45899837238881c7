use Rattle.std.proofs.Common.{◌≡◌, ◌∙◌, ◌<◌, ℕ, All, List, [], ap, arith, filter, get_or, length, map, subst, sym, true≢false}
use Rattle.std.proofs.lemmas.Bool.{eq-eqb, eqb-true}
use Rattle.std.specs.Global.{Vec}
use Rattle.std.specs.Prelude.{option_map}
use Rattle.brl_pairs.specs.declared.based.Past.TheVariants.{More}
use Rattle.brl_rules.specs.declared.place.Cond.TheVariants.{Any}
use Rattle.brl_states.specs.declared.due.Due.{Due}
use Rattle.brl_states.specs.declared.due.Due.TheVariants.{Need}
use Rattle.brl_states.specs.Order.{in_order}
use Rattle.brl_dues.specs.Contexts.{bars, is_bar, new_to}
use Rattle.brl_dues.specs.Letters.{left_past}
use Rattle.brl_dues.proofs.SharingLaws.{broken-by, left-by-met, met-bars-within, more-by, no-items, same-by}
use Rattle.brl_dues.proofs.sharing.past.Goals.{After-left_of_bars}
use Rattle.brl_dues.proofs.sharing.past.Goals as goal

pub left_of_bars-requires-clause-within : goal.left_of_bars-requires-clause-within
left_of_bars-requires-clause-within c =
    let s = c.args.state.now in
    let is : c.bars_of-bars.result.now ≡ bars s = c.bars_of-bars.ensures.bars ∙ ap (filter is_bar) c.as_slice.ensures.dues in
    subst (λ (l : List Due). All (λ n. n < length l) c.args.met.now) (sym is)
    (subst (All (λ n. n < length (bars s))) (sym c.requires) (met-bars-within s c.args.reads.now))

-- what is left is what all bars leave
whole : (c : After-left_of_bars) → left_past c.args.table.now c.args.reads.now (map (λ n. get_or c.bars_of-bars.result.now n (Need Any)) c.args.met.now) ≡ left_past c.args.table.now c.args.reads.now (bars c.args.state.now)
whole c =
    let t = c.args.table.now in
    let s = c.args.state.now in
    let reads = c.args.reads.now in
    let is : c.bars_of-bars.result.now ≡ bars s = c.bars_of-bars.ensures.bars ∙ ap (filter is_bar) c.as_slice.ensures.dues in
    ap (λ (l : List Due). left_past t reads (map (λ n. get_or l n (Need Any)) c.args.met.now)) is
    ∙ ap (λ (ns : List ℕ). left_past t reads (map (λ n. get_or (bars s) n (Need Any)) ns)) c.requires
    ∙ left-by-met t s reads (Need Any)

pub returns-in_default : goal.returns-in_default
returns-in_default c =
    broken-by c.args.table.now c.args.state.now c.args.next.now c.args.reads.now
    (sym (ap (option_map (λ (l : Vec Due). l.items)) c.in_default.is) ∙ c.in_ok-left.ensures.left ∙ whole (goal.at.returns-in_default c).After-left_of_bars)

pub returns-then-is_empty : goal.returns-then-is_empty
returns-then-is_empty c =
    let empty = eqb-true _ 0 (sym c.is_empty.ensures ∙ c.if-is_empty.true) in
    let none : c.new_to-more.result.items ≡ [] = no-items c.new_to-more.result.items (omega (arith, empty, c.new_to-more.result.ok.0)) in
    same-by c.args.table.now c.args.state.now c.args.next.now c.args.reads.now c.in-Some.left.items
    (sym (ap (option_map (λ (l : Vec Due). l.items)) c.in-Some.is) ∙ c.in_ok-left.ensures.left ∙ whole (goal.at.returns-then-is_empty c).After-left_of_bars)
    (ap (λ (owed : List Due). new_to owed c.in-Some.left.items) (sym c.as_slice-2.ensures.dues) ∙ sym c.new_to-more.ensures.new ∙ none)

pub returns : goal.returns
returns c =
    let new : c.new_to-more.result.items ≡ new_to c.args.next.now.dues c.in-Some.left.items = c.new_to-more.ensures.new ∙ ap (λ (owed : List Due). new_to owed c.in-Some.left.items) c.as_slice-2.ensures.dues in
    ap More (c.in_order.ensures ∙ ap in_order new)
    ∙ more-by c.args.table.now c.args.state.now c.args.next.now c.args.reads.now c.in-Some.left.items
    (sym (ap (option_map (λ (l : Vec Due). l.items)) c.in-Some.is) ∙ c.in_ok-left.ensures.left ∙ whole (goal.at.returns c).After-left_of_bars)
    (λ none.
    let size = ap length (new ∙ none) in
    true≢false (sym (eq-eqb _ 0 (omega (arith, size, c.new_to-more.result.ok.0))) ∙ sym c.is_empty.ensures ∙ c.if-is_empty.false))
