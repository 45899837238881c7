use Rattle.std.proofs.Common.{◌≡◌, ◌∙◌, ◌+◌, ◌-◌, ◌<◌, ◌++◌, [], ℕ, All, List, None, Some, ap, ap₂, arith, flat_map, inl, inr, length, map, option_copied, slice_get, subst, sym}
use Rattle.std.proofs.lemmas.Bool.{cases_lt}
use Rattle.std.proofs.lemmas.List.{length-map}
use Rattle.std.proofs.lemmas.Option.{get_or_from_slice_get, slice_get_within}
use Rattle.std.specs.List.{range_with_len}
use Rattle.brl_contexts.specs.declared.met.Met.{Met}
use Rattle.brl_contexts.specs.Met.{met_at, met_by}
use Rattle.brl_contexts.proofs.Found.{around_within, one_more, themselves}
use Rattle.brl_contexts.proofs.met.all_met.Goals as goal
use Rattle.brl_pairs.specs.Order.{all_at, at, places_around, places_of}
use Rattle.brl_pairs.proofs.Lists.{inside}

pub push_met-requires : goal.push_met-requires
push_met-requires g c =
    let kept = map (λ (l : List ℕ). l) c.args.reads.now in
    let all = all_at kept c.args.order.now.numbers.items in
    let size : length all ≡ length c.args.order.now.numbers.items = length-map c.args.order.now.numbers.items (at kept) in
    let value : length c.as_slice.result.now ≡ length c.args.order.now.numbers.items = ap length c.as_slice.ensures.value in
    subst (λ (places : List ℕ). All (λ place. place < length c.as_slice.result.now) places) (sym c.in_ok-around.ensures)
    (λ k d less. let h = around_within all c.in-Some.chars.now k d less in omega (arith, h, size, value))

smaller : (n k : ℕ) → k < n → n - (k + 1) < n - k
smaller n k less = omega (arith, less)

pub loop-bar-smaller : goal.loop-bar-smaller
loop-bar-smaller g c =
    let bars = (g.B.Based.sharing c.args.machine.now).bars c.args.state.now in
    let there : slice_get bars c.loop-bar.bar ≡ Some c.in-Some.chars.now = sym c.bar.ensures ∙ ap option_copied c.in-Some.is in
    smaller (length bars) c.loop-bar.bar (slice_get_within bars c.loop-bar.bar c.in-Some.chars.now there)

pub loop-bar-preserved : goal.loop-bar-preserved
loop-bar-preserved g c =
    let bars = (g.B.Based.sharing c.args.machine.now).bars c.args.state.now in
    let reads = c.args.reads.now in
    let numbers = c.args.order.now.numbers.items in
    let n = c.loop-bar.bar in
    let chars = c.in-Some.chars.now in
    let there : slice_get bars n ≡ Some chars = sym c.bar.ensures ∙ ap option_copied c.in-Some.is in
    let less : n < length bars = slice_get_within bars n chars there in
    let key : chars ≡ at bars n = sym (get_or_from_slice_get bars n chars [] there) in
    let found : map (met_at c.as_slice.result.now c.in_ok-number.number) (places_of c.in_ok-around.around) ≡ met_by bars reads numbers n =
    ap₂ (λ (l : List ℕ) (k : ℕ). map (met_at l k) (places_of c.in_ok-around.around)) c.as_slice.ensures.value c.in_ok-number.ensures
    ∙ ap (map (met_at numbers n)) (c.in_ok-around.ensures ∙ ap₂ (λ (kept : List (List ℕ)) (own : List ℕ). places_around (all_at kept numbers) own) (themselves reads) key) in
    record {
      within = omega (arith, less);
      found = c.in_ok-push_met.ensures ∙ ap₂ (λ (a b : List Met). a ++ b) c.loop-bar.invariant.found found ∙ sym (one_more bars reads numbers n);
    }

pub returns : goal.returns
returns g c =
    let bars = (g.B.Based.sharing c.args.machine.now).bars c.args.state.now in
    let n = c.loop-bar.bar in
    let none : slice_get bars n ≡ None = sym c.bar.ensures ∙ ap option_copied c.in_default.is in
    let all : n ≡ length bars = elim (cases_lt n (length bars)) [
      | inl less ↦ absurd (let x = inside bars n less in let wrong = sym x.1 ∙ none in cc)
      | inr more ↦ omega (arith, more, c.loop-bar.invariant.within)
    ] in
    c.loop-bar.invariant.found ∙ ap (λ (k : ℕ). flat_map (met_by bars c.args.reads.now c.args.order.now.numbers.items) (range_with_len 0 k)) all
