use Rattle.std.proofs.Common.{◌≡◌, ◌++◌, ℕ, List, reverse, sym, ap, ◌∙◌, subst}
use Rattle.std.proofs.lemmas.Option.{slice_get_within}
use Rattle.brl_pairs.specs.declared.step.Step.{Step}
use Rattle.brl_closure.specs.Trail.{TakesStep}
use Rattle.brl_closure.specs.Path.{HasStepAt}
use Rattle.brl_closure.proofs.Path.{two_paths}
use Rattle.brl_closure.proofs.search.finder.Finder.texts_of_split.Goals as goal

pub push_reads-requires-clause-step : goal.push_reads-requires-clause-step
push_reads-requires-clause-step g c =
    subst (λ (xs : List g.row.M-State.Denot). HasStepAt (g.M.Machine.behaviour c.args.self.now.machine.now) xs c.args.state c.args.longer) (sym c.as_slice-states.ensures.members)
    (record { step = c.requires.continues.split.ahead_step; taken = c.requires.continues.split.ahead_taken })

pub push_reads-requires-2-clause-step : goal.push_reads-requires-2-clause-step
push_reads-requires-2-clause-step g c =
    subst (λ (xs : List g.row.M-State.Denot). HasStepAt (g.M.Machine.behaviour c.args.self.now.machine.now) xs c.args.state c.args.shorter) (sym c.as_slice-states.ensures.members)
    (record { step = c.requires.continues.split.behind_step; taken = c.requires.continues.split.behind_taken })

pub text_to-requires-clause-within : goal.text_to-requires-clause-within
text_to-requires-clause-within g c = slice_get_within c.args.trail.now.states c.args.state c.requires.continues.split.ahead_taken.state c.requires.continues.split.ahead_taken.at

pub returns-clause-texts : goal.returns-clause-texts
returns-clause-texts g c =
    let m = g.M.Machine.behaviour c.args.self.now.machine.now in
    let left : c.reverse.new.self.items ≡ reverse (c.push_reads.new.text.items ++ c.in_ok-before.before.items) =
    c.reverse.ensures.items ∙ ap (λ (l : List ℕ). reverse l) (c.in_ok-extend_from_slice.ensures.items ∙ ap (λ (l : List ℕ). c.push_reads.new.text.items ++ l) c.as_slice.ensures.value) in
    let right : c.reverse-2.new.self.items ≡ reverse (c.push_reads-2.new.text.items ++ c.in_ok-before.before.items) =
    c.reverse-2.ensures.items ∙ ap (λ (l : List ℕ). reverse l) (c.in_ok-extend_from_slice-2.ensures.items ∙ ap (λ (l : List ℕ). c.push_reads-2.new.text.items ++ l) c.as_slice-2.ensures.value) in
    rw (left, right)
    (two_paths m c.args.trail.now c.requires.traced c.requires.laws c.args.state c.args.longer c.args.shorter c.args.texts.left.items c.args.texts.right.items c.push_reads.new.text.items c.push_reads-2.new.text.items c.in_ok-before.before.items c.requires.continues c.in_ok-before.ensures.text
    (subst (λ (xs : List g.row.M-State.Denot). (x : Step g.row.M-State.Denot) → TakesStep (g.M.Machine.behaviour c.args.self.now.machine.now) xs c.args.state c.args.longer x → c.push_reads.new.text.items ≡ c.args.texts.left.items ++ reverse x.reads) c.as_slice-states.ensures.members c.in_ok-push_reads.ensures.text)
    (subst (λ (xs : List g.row.M-State.Denot). (x : Step g.row.M-State.Denot) → TakesStep (g.M.Machine.behaviour c.args.self.now.machine.now) xs c.args.state c.args.shorter x → c.push_reads-2.new.text.items ≡ c.args.texts.right.items ++ reverse x.reads) c.as_slice-states.ensures.members c.in_ok-push_reads-2.ensures.text))
