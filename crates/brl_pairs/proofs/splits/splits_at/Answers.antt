use Rattle.std.proofs.Common.{◌≤◌, ◌≡◌, ◌-◌, ◌++◌, ◌∙◌, ℕ, List, ap, get_or, Some, slice_get, subst, sym, arith}
use Rattle.std.proofs.lemmas.Option.{slice_get-get_or}
use Rattle.brl_pairs.specs.Splits.{AreOthers, AreWithin}
use Rattle.brl_pairs.specs.declared.sorted.SortedEdge.{SortedEdge}
use Rattle.brl_pairs.proofs.SortedLaws.{edge_at, for_edge_at, is_at}
use Rattle.brl_pairs.proofs.SplitsLaws.{HasComeTo, IsAdded, IsEarlierShorter, begins_next, chain_init, chain_step, next_before, others_of_both}
use Rattle.brl_pairs.proofs.splits.splits_at.Goals as goal

pub loop-last-init : goal.loop-last-init
loop-last-init c =
    let a = c.args in
    let h = (λ (y : SortedEdge) (y_at : slice_get a.sorted.now a.position ≡ Some y).
    c.requires.shorter a.position (get_or a.shorter.now a.position 0) y y_at (slice_get-get_or a.shorter.now a.position 0 (omega (arith, c.requires.many, c.requires.within)))) in
    record {
      before = (let y = h (edge_at a.sorted.now a.position) (is_at a.sorted.now a.position c.requires.within) in y.before);
      begins = λ k x y is x_at y_at. (h y y_at).begins k x is x_at;
      found = λ y y_at. chain_init a.cells.now a.sorted.now c.requires.ascending a.limit a.position y y_at _ (h y y_at) c.new-found.result.items c.new-found.ensures.items;
    }

pub loop-last-preserved : goal.loop-last-preserved
loop-last-preserved c =
    let a = c.args in
    let last = c.loop-last.last in
    let low : last ≤ a.position = c.loop-last.invariant.before in
    let walk : HasComeTo a.cells.now a.sorted.now a.shorter.now a.position last = record { known = c.requires.shorter; within = c.requires.within; low = low; some = omega arith; listed = omega (arith, low, c.requires.within, c.requires.many) } in
    let x_at = is_at a.sorted.now (last - 1) (omega (arith, low, c.requires.within)) in
    let begins = (λ (y : SortedEdge) (y_at : slice_get a.sorted.now a.position ≡ Some y). c.loop-last.invariant.begins (last - 1) (edge_at a.sorted.now (last - 1)) y (omega arith) x_at y_at) in
    let here = edge_at a.sorted.now a.position in
    let here_at = is_at a.sorted.now a.position c.requires.within in
    let added : IsAdded (edge_at a.sorted.now (last - 1)) a.limit c.loop-last.found.items c.add_earlier.new.found.items = record { only = c.in_ok-add_earlier.ensures.only; kept = c.in_ok-add_earlier.ensures.kept; added = c.in_ok-add_earlier.ensures.added } in
    record {
      before = next_before a.cells.now a.sorted.now c.requires.ascending walk;
      begins = λ k z y is z_at y_at. begins_next a.cells.now a.sorted.now c.requires.ascending walk y y_at (begins y y_at) k z is z_at;
      found = for_edge_at (λ (y : SortedEdge). AreWithin (IsEarlierShorter a.cells.now a.limit y) a.sorted.now (get_or a.shorter.now (last - 1) 0) a.position c.add_earlier.new.found.items) a.sorted.now a.position c.requires.within
          (chain_step a.cells.now a.sorted.now c.requires.ascending walk here here_at (begins here here_at) a.limit c.loop-last.found.items c.add_earlier.new.found.items added (c.loop-last.invariant.found here here_at));
    }

pub returns : goal.returns
returns c = λ y y_at.
    let a = c.args in
    let zero : c.loop-last.last ≡ 0 = omega arith in
    let shorter = subst (λ (n : ℕ). AreWithin (IsEarlierShorter a.cells.now a.limit y) a.sorted.now n a.position c.loop-last.found.items) zero (c.loop-last.invariant.found y y_at) in
    let whole : c.extend_from_slice.new.self.items ≡ c.loop-last.found.items ++ c.in_ok-longer.longer.items =
    c.in_ok-extend_from_slice.ensures.items ∙ ap (λ (l : List SortedEdge). c.loop-last.found.items ++ l) c.as_slice.ensures.value in
    subst (AreOthers a.cells.now a.sorted.now a.position a.limit y) (sym whole)
    (others_of_both a.cells.now a.sorted.now c.requires.ascending a.limit a.position y y_at c.loop-last.found.items c.in_ok-longer.longer.items shorter (c.in_ok-longer.ensures y y_at))
