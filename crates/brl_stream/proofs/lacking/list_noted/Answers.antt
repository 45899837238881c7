use Rattle.std.proofs.Common.{◌∙◌, ◌∷◌, ◌++◌, [], List, ap, append-nil, flat_map, sym, take, take_all}
use Rattle.std.specs.BTreeMap.{get_by}
use Rattle.std.specs.Global.{Vec}
use Rattle.std.specs.Ordering.{nat_cmp}
use Rattle.brl_stream.specs.declared.lacking.Lacking.{Lacking}
use Rattle.brl_stream.proofs.LackingLemmas.{listed, listed-more, noted-listed}
use Rattle.brl_stream.proofs.lacking.list_noted.Goals as goal
use Rattle.brl_stream.proofs.lacking.list_noted.Goals.{in-Some+in_ok-push-in-Some, in-None}

pub loop-character-preserved : goal.loop-character-preserved
loop-character-preserved c =
    let found = c.args.noted.now.found in
    let order = c.as_slice-order.result.now in
    let i = c.loop-character.character-index in
    let character = c.character-item.result in
    let before : List Lacking = flat_map (λ c. listed c (get_by (nat_cmp c) found)) (take i order) in
    let more = listed-more found order i character c.loop-character-test.true c.character-item.is in
    elim c.match-get.branch [
      | in-Some+in_ok-push-in-Some w ↦ ap (λ (v : Vec Lacking). v.items) w.list-is ∙ w.in_ok-push-in-Some.ensures.items
          ∙ ap (λ (l : List Lacking). l ++ record { character = character; count = w.in-Some.found.now.count; line = w.in-Some.found.now.line } ∷ []) c.loop-character.invariant
          ∙ ap (λ f. before ++ listed character f) w.in-Some.ensures.value ∙ sym more
      | in-None w ↦ ap (λ (v : Vec Lacking). v.items) w.list-is ∙ c.loop-character.invariant ∙ sym (append-nil before) ∙ ap (λ f. before ++ listed character f) w.in-None.ensures.value ∙ sym more
    ]

pub returns : goal.returns
returns c = λ uses noted.
    let found = c.args.noted.now.found in
    let order = c.as_slice-order.result.now in
    let i = c.loop-character.character-index in
    c.loop-character.invariant
    ∙ ap (flat_map (λ c. listed c (get_by (nat_cmp c) found))) (take_all i order c.loop-character-test.false ∙ c.as_slice-order.ensures.value) ∙ noted-listed uses c.args.noted.now noted
