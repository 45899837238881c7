use Rattle.std.proofs.Common.{◌≡◌, ◌∙◌, ◌+◌, ◌-◌, ◌<◌, ℕ, Bool, List, [], Some, ap, ap₂, arith, false, get_or, length, slice_get, subst, sym, true}
use Rattle.std.proofs.lemmas.List.{get_or_past}
use Rattle.std.proofs.lemmas.Option.{get_or_from_slice_get, slice_get_within}
use Rattle.brl_contexts.specs.Changes.{AreChangesBelow, AreChangesTo, IsShared}
use Rattle.brl_contexts.specs.Met.{AreBarsAt, AreMetByForm}
use Rattle.brl_contexts.specs.Named.{AreCarried, StillNames}
use Rattle.brl_contexts.specs.declared.changes.Change.{Change}
use Rattle.brl_contexts.specs.declared.forms.Forms.{Forms}
use Rattle.brl_contexts.specs.declared.met.Met.{Met}
use Rattle.brl_contexts.specs.declared.named.Named.{Named}
use Rattle.brl_contexts.proofs.Groups.{bound_of, group_bars, own_form, still_passed}
use Rattle.brl_contexts.proofs.PushChange.{for_all}
use Rattle.brl_contexts.proofs.PushChanges.{bound_is, closed_change, first_changes, many_reads, next_changes, opens_value, place_less, reads_of_form, still_shared}
use Rattle.brl_contexts.proofs.changes.push_changes.Goals as goal
use Rattle.brl_contexts.proofs.changes.push_changes.Goals.{then-opens-index+in_ok-push_change, else-opens-index}
use Rattle.brl_pairs.specs.Based.{KeepsSharing, Sharing, meeting}
use Rattle.brl_pairs.specs.Order.{at as sequence_at}
use Rattle.brl_pairs.specs.Runs.{Behaviour, KeepsLaws}
use Rattle.brl_pairs.proofs.Lists.{inside, same_place}

pub loop-from-init : goal.loop-from-init
loop-from-init g c =
    let eq = g.B.State.PartialEq.eq in
    let m = g.B.Machine.behaviour c.args.machine.now in
    let h = g.B.Based.sharing c.args.machine.now in
    let named = c.args.named.now in
    let forms = c.args.forms.now in
    let shared = c.requires.shared in
    let met = c.args.met.now in
    let bound = bound_of met 0 (length forms.reads.items) in
    record {
      within = omega arith;
      passed = λ i x less at. absurd (omega (arith, less));
      names = record { states = λ k s at. at; cells = λ k own at. at };
      carried = shared.are_carried;
      changes = subst (λ (l : List Change). AreChangesTo eq m h named c.args.state bound l) (sym c.requires.none)
          (for_all eq m h named c.args.state bound _ shared.state shared.base shared.at shared.is_base
          (first_changes eq g.met.B.State.Key.same g.met.B.State.Eq.laws.refl m h c.start.ensures.laws c.law.ensures shared.state shared.base shared.is_base named forms shared.are_forms met (c.requires.met shared.state shared.at)));
    }

pub bounds-opens-index : goal.bounds-opens-index
bounds-opens-index g c =
    let m = g.B.Machine.behaviour c.args.machine.now in
    let h = g.B.Based.sharing c.args.machine.now in
    let shared = c.requires.shared in
    place_less h c.args.named.now (m.steps shared.base) c.args.forms.now shared.are_forms shared.state c.args.opens.now (c.requires.opens shared.state shared.at) c.args.met.now (c.requires.met shared.state shared.at)
    c.loop-from.from c.loop-from-test.true c.index.result.now c.index.ensures

pub push_change-requires-clause-shared : goal.push_change-requires-clause-shared
push_change-requires-clause-shared g c =
    still_shared (g.B.Machine.behaviour c.args.machine.now) (g.B.Based.sharing c.args.machine.now) c.args.named.now c.loop-from.named c.loop-from.invariant.names c.loop-from.invariant.carried c.args.state c.args.forms.now c.requires.shared

pub push_change-requires-clause-opened : goal.push_change-requires-clause-opened
push_change-requires-clause-opened g c s at =
    let m = g.B.Machine.behaviour c.args.machine.now in
    let h = g.B.Based.sharing c.args.machine.now in
    let shared = c.requires.shared in
    let same : shared.state ≡ s = same_place c.loop-from.named.states c.args.state shared.state s (c.loop-from.invariant.names.states c.args.state shared.state shared.at) at in
    let form = (get_or c.args.met.now c.loop-from.from (record { form = 0; bar = 0 })).form in
    subst (λ t. h.opens t (h.gate (sequence_at c.args.forms.now.reads.items form)) ≡ true) same
    (opens_value h c.args.named.now (m.steps shared.base) c.args.forms.now shared.are_forms shared.state c.args.opens.now (c.requires.opens shared.state shared.at) c.args.met.now (c.requires.met shared.state shared.at)
    c.loop-from.from c.loop-from-test.true c.index.result.now c.index.ensures true c.if-opens-index.true)

pub push_change-requires-clause-met : goal.push_change-requires-clause-met
push_change-requires-clause-met g c s at =
    let h = g.B.Based.sharing c.args.machine.now in
    let shared = c.requires.shared in
    let reads = c.args.forms.now.reads.items in
    let met = c.args.met.now in
    let from = c.loop-from.from in
    let here = c.in_ok-bars.ensures in
    let are_met = c.requires.met shared.state shared.at in
    let same : shared.state ≡ s = same_place c.loop-from.named.states c.args.state shared.state s (c.loop-from.invariant.names.states c.args.state shared.state shared.at) at in
    let form : here.form ≡ (get_or met from (record { form = 0; bar = 0 })).form =
    sym (own_form (h.bars shared.state) reads met are_met from c.in_ok-bars.bars.items here c.loop-from.invariant.passed)
    ∙ bound_is h c.args.named.now ((g.B.Machine.behaviour c.args.machine.now).steps shared.base) c.args.forms.now shared.are_forms shared.state c.args.opens.now (c.requires.opens shared.state shared.at) met are_met from c.loop-from-test.true in
    c.as_slice.ensures.value ∙ group_bars (h.bars shared.state) reads met are_met from c.in_ok-bars.bars.items here c.loop-from.invariant.passed
    ∙ ap₂ (λ (t : g.row.B-State.Denot) (k : ℕ). meeting (h.bars t) (sequence_at reads k)) same form

pub push_change-requires-clause-below : goal.push_change-requires-clause-below
push_change-requires-clause-below g c =
    let m = g.B.Machine.behaviour c.args.machine.now in
    let h = g.B.Based.sharing c.args.machine.now in
    let shared = c.requires.shared in
    subst (λ k. AreChangesTo g.B.State.PartialEq.eq m h c.loop-from.named c.args.state k c.loop-from.changes.items)
    (bound_is h c.args.named.now (m.steps shared.base) c.args.forms.now shared.are_forms shared.state c.args.opens.now (c.requires.opens shared.state shared.at) c.args.met.now (c.requires.met shared.state shared.at) c.loop-from.from
    c.loop-from-test.true) c.loop-from.invariant.changes

-- the invariant after a group
module _ {S : Type 0} (eq : S → S → Bool) (same : (a b : S) → eq a b ≡ true → a ≡ b) (itself : (a : S) → eq a a ≡ true) {D : Type 0} (m : Behaviour S) (h : Sharing S D) (laws : KeepsLaws m) (keeps : KeepsSharing eq m h)
    (named : Named S D) (number : ℕ) (forms : Forms) (shared : IsShared m h named number forms) (met : List Met) (are_met : AreMetByForm (h.bars shared.state) forms.reads.items met)
    (from : ℕ) (bars : List ℕ) (here : AreBarsAt met from bars) (passed : (i : ℕ) (x : Met) → i < from → slice_get met i ≡ Some x → x.form < bound_of met from (length forms.reads.items)) (changes : List Change) where
  after_group : AreChangesTo eq m h named number (here.form + 1) changes → AreChangesTo eq m h named number (bound_of met (from + length bars) (length forms.reads.items)) changes
  after_group to = for_all eq m h named number (bound_of met (from + length bars) (length forms.reads.items)) changes shared.state shared.base shared.at shared.is_base
      (next_changes eq same itself m h laws keeps shared.state shared.base shared.is_base named forms shared.are_forms met are_met from bars here passed changes (to shared.state shared.base shared.at shared.is_base))

  after_closed : h.opens shared.state (h.gate (sequence_at forms.reads.items here.form)) ≡ false → AreChangesTo eq m h named number (bound_of met from (length forms.reads.items)) changes
      → AreChangesTo eq m h named number (bound_of met (from + length bars) (length forms.reads.items)) changes
  after_closed closed to =
      let own = own_form (h.bars shared.state) forms.reads.items met are_met from bars here passed in
      let below = subst (λ k. AreChangesBelow eq h named shared.state (m.steps shared.base) k changes) own (to shared.state shared.base shared.at shared.is_base) in
      for_all eq m h named number (bound_of met (from + length bars) (length forms.reads.items)) changes shared.state shared.base shared.at shared.is_base
      (next_changes eq same itself m h laws keeps shared.state shared.base shared.is_base named forms shared.are_forms met are_met from bars here passed changes
      (closed_change eq same itself m h laws keeps shared.state shared.base shared.is_base named forms shared.are_forms here.form changes
      (λ x x_at. ap (λ (l : List ℕ). h.opens shared.state (h.gate l)) (sym (get_or_from_slice_get forms.reads.items here.form x.reads [] (reads_of_form h named (m.steps shared.base) forms shared.are_forms here.form x x_at))) ∙ closed) below))

pub loop-from-preserved : goal.loop-from-preserved
loop-from-preserved g c =
    let eq = g.B.State.PartialEq.eq in
    let m = g.B.Machine.behaviour c.args.machine.now in
    let h = g.B.Based.sharing c.args.machine.now in
    let forms = c.args.forms.now in
    let shared = c.requires.shared in
    let met = c.args.met.now in
    let from = c.loop-from.from in
    let bars = c.in_ok-bars.bars.items in
    let here = c.in_ok-bars.ensures in
    let passed = c.loop-from.invariant.passed in
    let are_met = c.requires.met shared.state shared.at in
    let vec = c.in_ok-bars.bars.ok.0 in
    let value = c.len-from.ensures in
    let many : c.len-from.result ≡ length bars = omega (arith, vec, value) in
    let next : from + c.len-from.result ≡ from + length bars = ap (λ (n : ℕ). from + n) many in
    let form : bound_of met from (length forms.reads.items) ≡ (get_or met from (record { form = 0; bar = 0 })).form =
    bound_is h c.args.named.now (m.steps shared.base) forms shared.are_forms shared.state c.args.opens.now (c.requires.opens shared.state shared.at) met are_met from c.loop-from-test.true in
    let own : bound_of met from (length forms.reads.items) ≡ here.form = own_form (h.bars shared.state) forms.reads.items met are_met from bars here passed in
    let last = inside bars (length bars - 1) (let some = here.some in omega (arith, some)) in
    let last_at = slice_get_within met (from + (length bars - 1)) _ (here.each (length bars - 1) last.0 last.1) in
    record {
      within = (let some = here.some in omega (arith, many, last_at, some));
      passed = λ i x less at.
          (let early = still_passed (h.bars shared.state) forms.reads.items met are_met from bars here passed i x (omega (arith, less, many)) at in
          subst (λ (n : ℕ). x.form < bound_of met n (length forms.reads.items)) (sym next) early);
      names = elim c.if-opens-index.branch [
        | then-opens-index+in_ok-push_change w ↦ subst (StillNames c.args.named.now) (sym w.named-is) (record {
          states = λ k s at. w.in_ok-push_change.ensures.names.states k s (c.loop-from.invariant.names.states k s at);
          cells = λ k own at. w.in_ok-push_change.ensures.names.cells k own (c.loop-from.invariant.names.cells k own at);
        })
        | else-opens-index w ↦ subst (StillNames c.args.named.now) (sym w.named-is) c.loop-from.invariant.names
      ];
      carried = elim c.if-opens-index.branch [
        | then-opens-index+in_ok-push_change w ↦ subst (AreCarried h) (sym w.named-is) w.in_ok-push_change.ensures.carried
        | else-opens-index w ↦ subst (AreCarried h) (sym w.named-is) c.loop-from.invariant.carried
      ];
      changes = subst (λ (n : ℕ). AreChangesTo eq m h c.if-opens-index.named c.args.state (bound_of met n (length forms.reads.items)) c.if-opens-index.changes.items) (sym next) (elim c.if-opens-index.branch [
        | then-opens-index+in_ok-push_change w ↦
            let new = w.push_change.new.named in
            let all = still_shared m h c.loop-from.named new w.in_ok-push_change.ensures.names w.in_ok-push_change.ensures.carried c.args.state forms
            (still_shared m h c.args.named.now c.loop-from.named c.loop-from.invariant.names c.loop-from.invariant.carried c.args.state forms shared) in
            subst (λ (n : Named g.row.B-State.Denot g.row.B-More.Denot). AreChangesTo eq m h n c.args.state (bound_of met (from + length bars) (length forms.reads.items)) c.if-opens-index.changes.items) (sym w.named-is)
            (after_group eq g.met.B.State.Key.same g.met.B.State.Eq.laws.refl m h c.start.ensures.laws c.law.ensures new c.args.state forms all met are_met from bars here passed c.if-opens-index.changes.items
            (subst (λ (k : ℕ). AreChangesTo eq m h new c.args.state k c.if-opens-index.changes.items) (ap (λ (k : ℕ). k + 1) (sym form ∙ own))
            (subst (λ v. AreChangesTo eq m h new c.args.state ((get_or met from (record { form = 0; bar = 0 })).form + 1) v.items) (sym w.changes-is) w.in_ok-push_change.ensures.below)))
        | else-opens-index w ↦
            let all = still_shared m h c.args.named.now c.loop-from.named c.loop-from.invariant.names c.loop-from.invariant.carried c.args.state forms shared in
            let shut = opens_value h c.args.named.now (m.steps shared.base) forms shared.are_forms shared.state c.args.opens.now (c.requires.opens shared.state shared.at) met are_met from c.loop-from-test.true
            c.index.result.now c.index.ensures false w.if-opens-index.false in
            subst (λ (n : Named g.row.B-State.Denot g.row.B-More.Denot). AreChangesTo eq m h n c.args.state (bound_of met (from + length bars) (length forms.reads.items)) c.if-opens-index.changes.items) (sym w.named-is)
            (after_closed eq g.met.B.State.Key.same g.met.B.State.Eq.laws.refl m h c.start.ensures.laws c.law.ensures c.loop-from.named c.args.state forms all met are_met from bars here passed c.if-opens-index.changes.items
            (ap (λ (k : ℕ). h.opens shared.state (h.gate (sequence_at forms.reads.items k))) (sym own ∙ form) ∙ shut)
            (subst (λ v. AreChangesTo eq m h c.loop-from.named c.args.state (bound_of met from (length forms.reads.items)) v.items) (sym w.changes-is) c.loop-from.invariant.changes))
      ]);
    }

pub returns-clause-changes : goal.returns-clause-changes
returns-clause-changes g c =
    let m = g.B.Machine.behaviour c.args.machine.now in
    let h = g.B.Based.sharing c.args.machine.now in
    let forms = c.args.forms.now in
    let shared = c.requires.shared in
    let met = c.args.met.now in
    let end : bound_of met c.loop-from.from (length forms.reads.items) ≡ length forms.reads.items =
    ap (λ (x : Met). x.form) (get_or_past met c.loop-from.from (record { form = length forms.reads.items; bar = 0 }) (omega (arith, c.loop-from-test.false))) in
    subst (λ k. AreChangesTo g.B.State.PartialEq.eq m h c.loop-from.named c.args.state k c.loop-from.changes.items)
    (end ∙ many_reads h c.args.named.now (m.steps shared.base) forms shared.are_forms) c.loop-from.invariant.changes

pub returns-clause-carried : goal.returns-clause-carried
returns-clause-carried g c = c.loop-from.invariant.carried
