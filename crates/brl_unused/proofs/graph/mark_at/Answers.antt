use Rattle.std.proofs.Common.{◌≡◌, ◌∙◌, ◌<◌, ℕ, Bool, List, Some, ap, arith, get_or, length, refl, slice_get, subst, true}
use Rattle.std.proofs.lemmas.Option.{slice_get_read}
use Rattle.brl_pairs.proofs.Lists.{same_place}
use Rattle.brl_pairs.proofs.Numbered.{contained}
use Rattle.brl_unused.specs.Graph.{IsWhole}
use Rattle.brl_unused.specs.Marking.{LeadsOn}
use Rattle.brl_unused.specs.declared.found.FoundStates.{FoundStates}
use Rattle.brl_unused.proofs.Marked.{mark-fewer, marked_more}
use Rattle.brl_unused.proofs.graph.mark_at.Goals as goal

-- the number at a place is that of a state that is known
module _ {S D : Type 0} (f : FoundStates S D) (whole : IsWhole f) (place : ℕ) (within : place < length f.order.items) (number : ℕ) (is : number ≡ get_or f.order.items place number) where
  number_at : slice_get f.order.items place ≡ Some number
  number_at = slice_get_read f.order.items (length f.order.items) place number refl within is

  number_low : (live : List Bool) → length live ≡ length f.contexts.named.states → number < length live
  number_low live size = (let known = whole.known number (contained f.order.items place number number_at) in omega (arith, known, size))

pub index-requires-2 : goal.index-requires-2
index-requires-2 g c =
    let low = number_low c.args.found.now c.requires.whole c.args.place c.requires.within c.index.result.now c.index.ensures c.args.live.now.items c.requires.live in
    omega (arith, low)

pub index_mut-requires : goal.index_mut-requires
index_mut-requires g c =
    let low = number_low c.args.found.now c.requires.whole c.args.place c.requires.within c.index.result.now c.index.ensures c.args.live.now.items c.requires.live in
    omega (arith, low)

pub returns-then-index-clause-closed : goal.returns-then-index-clause-closed
returns-then-index-clause-closed g c = λ no n at leads.
    let f = c.args.found.now in
    let live = c.args.live.now.items in
    let number = c.index.result.now in
    let low : number < length live = number_low f c.requires.whole c.args.place c.requires.within number c.index.ensures live c.requires.live in
    let same : number ≡ n = same_place f.order.items c.args.place number n (number_at f c.requires.whole c.args.place c.requires.within number c.index.ensures) at in
    subst (λ (k : ℕ). slice_get live k ≡ Some true) same (slice_get_read live (length live) number c.index-2.result.now refl low c.index-2.ensures ∙ ap Some c.if-index.true)

pub returns-then-leads-clause-marked : goal.returns-then-leads-clause-marked
returns-then-leads-clause-marked g c = λ ends marked.
    let f = c.args.found.now in
    let live = c.args.live.now.items in
    marked_more ends f live marked c.args.place c.index.result.now (number_at f c.requires.whole c.args.place c.requires.within c.index.result.now c.index.ensures)
    (subst (λ (l : List Bool). LeadsOn f l c.args.place) c.as_slice.ensures.value (c.in_ok-leads.ensures.0 c.if-leads.true))

pub returns-then-leads-clause-fewer : goal.returns-then-leads-clause-fewer
returns-then-leads-clause-fewer g c = λ more.
    let live = c.args.live.now.items in
    let number = c.index.result.now in
    let low : number < length live = number_low c.args.found.now c.requires.whole c.args.place c.requires.within number c.index.ensures live c.requires.live in
    let fewer = mark-fewer live number (slice_get_read live (length live) number c.index-2.result.now refl low c.index-2.ensures ∙ ap Some c.if-index.false) in
    omega (arith, fewer)
