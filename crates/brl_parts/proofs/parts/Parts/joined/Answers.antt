use Rattle.std.proofs.Common.{◌≡◌, ◌∷◌, ◌++◌, [], ◌+◌, ◌<◌, ℕ, List, Some, slice_get, take, get_or, length, refl, sym, ◌∙◌, ap, ap₂, subst, arith}
use Rattle.std.proofs.lemmas.List.{take_all}
use Rattle.std.proofs.lemmas.List.Elements.{All-get_or}
use Rattle.std.proofs.lemmas.Option.{slice_get_read}
use Rattle.std.specs.List.{flat_map}
use Rattle.brl_parts.specs.Parts.{PartsView, edges_of}
use Rattle.brl_parts.proofs.Merging.{joined_more}
use Rattle.brl_parts.proofs.parts.Parts.joined.Goals as goal

pub loop-number-preserved : goal.loop-number-preserved
loop-number-preserved g c =
    let kept = c.args.self.now in
    let k = c.loop-number.number-index in
    let numbers = c.args.numbers.now in
    let at = slice_get_read c.self.inside.edges.items (length c.self.inside.edges.items) (get_or numbers k 0) c.index.result.now refl (let below = All-get_or (λ n. n < length kept.parts) numbers k 0 (omega arith) c.requires in let same = ap (λ (v : PartsView _). length v.parts) c.self.view_is in let most = c.self.invariant in omega (arith, below, same, most)) c.index.ensures in
    c.in_ok-extend_from_slice.ensures.items
    ∙ ap₂ (λ a b. a ++ b) c.loop-number.invariant c.as_slice.ensures.value
    ∙ joined_more kept numbers k c.index.result.now (omega arith) (subst (λ (v : PartsView _). slice_get v.edges (get_or numbers k 0) ≡ Some c.index.result.now) c.self.view_is at)

pub index-requires : goal.index-requires
index-requires g c =
    let kept = c.args.self.now in
    let k = c.loop-number.number-index in
    let below = All-get_or (λ n. n < length kept.parts) c.args.numbers.now k 0 (omega arith) c.requires in
    let same = ap (λ (v : PartsView _). length v.parts) c.self.view_is in
    let most = c.self.invariant in
    omega (arith, below, same, most, c.self.inside.edges.ok.0)

pub returns : goal.returns
returns g c = c.loop-number.invariant ∙ ap (flat_map (edges_of c.args.self.now)) (take_all c.loop-number.number-index c.args.numbers.now (omega arith))
