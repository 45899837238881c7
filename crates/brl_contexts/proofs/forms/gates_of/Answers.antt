use Rattle.std.proofs.Common.{◌≡◌, ◌∙◌, ◌++◌, ◌∷◌, [], ℕ, List, Some, ap, refl, slice_get, subst, sym, take}
use Rattle.brl_contexts.specs.Forms.{AreGates}
use Rattle.brl_contexts.proofs.forms.gates_of.Goals as goal
use Rattle.brl_pairs.proofs.Lists.{count_push, each_push, read_at, take-got}

pub loop-chars-preserved : goal.loop-chars-preserved
loop-chars-preserved g c =
    let gate = (g.B.Based.sharing c.args.machine.now).gate in
    let reads = c.args.reads.now in
    let i = c.loop-chars.chars-index in
    let x = c.chars-item.result in
    let at = read_at reads reads i x refl c.loop-chars-test.true c.chars-item.is in
    let places = c.loop-chars.places.items in
    let place = c.in_ok-place.place in
    let own : slice_get c.gate_place.new.gates.items place ≡ Some (gate x) = c.in_ok-place.ensures.place ∙ ap Some c.gate.ensures in
    subst (λ (l : List (List ℕ)). AreGates gate l c.gate_place.new.gates.items c.push.new.self.items) (sym (take-got reads i x at))
    (subst (AreGates gate (take i reads ++ x ∷ []) c.gate_place.new.gates.items) (sym c.in_ok-push.ensures.items) (record {
      count = count_push (take i reads) places x place c.loop-chars.invariant.count;
      each = λ form chars p at there.
          each_push (take i reads) places x place c.loop-chars.invariant.count
          (λ chars p. slice_get c.loop-chars.gates.items p ≡ Some (gate chars))
          (λ chars p. slice_get c.gate_place.new.gates.items p ≡ Some (gate chars))
          (λ chars p. c.in_ok-place.ensures.stay p (gate chars))
          c.loop-chars.invariant.each own form chars p at there;
    }))
