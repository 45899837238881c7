use Rattle.std.proofs.Common.{◌≡◌, Bool, sym, subst, arith}
use Rattle.std.specs.Bool.{OnFalse}
use Rattle.brl_closure.specs.Worklist.{IsWorking, NoneIsReady}
use Rattle.brl_closure.specs.declared.search.trail.Trail.{Trail}
use Rattle.brl_closure.specs.declared.search.worklist.Worklist.{Worklist}
use Rattle.brl_closure.proofs.Steps.{all_finished}
use Rattle.brl_closure.proofs.search.finder.Finder.step.Goals as goal

pub expand_next-requires-clause-working : goal.expand_next-requires-clause-working
expand_next-requires-clause-working g c =
    let b = g.M.Machine.behaviour in
    let p = g.M.Parted.steps_of in
    let f = c.args.self.now in
    let same_trail : c.walk_next.new.trail ≡ c.args.trail.now = subst (λ (x : Bool). OnFalse x (c.walk_next.new.trail ≡ c.args.trail.now)) c.if-branch.false c.in_ok-walk_next.ensures.same in
    let same_work : c.walk_next.new.worklist ≡ c.args.worklist.now = subst (λ (x : Bool). OnFalse x (c.walk_next.new.worklist ≡ c.args.worklist.now)) c.if-branch.false c.in_ok-walk_next.ensures.same_work in
    subst (λ (t : Trail g.row.M-State.Denot). IsWorking b p f t c.walk_next.new.worklist) (sym same_trail) (subst (λ (w : Worklist g.row.M-Part.Denot). IsWorking b p f c.args.trail.now w) (sym same_work) c.requires.working)

pub returns-clause-finished : goal.returns-clause-finished
returns-clause-finished g c =
    let b = g.M.Machine.behaviour in
    let p = g.M.Parted.steps_of in
    let f = c.args.self.now in
    let old = c.args.worklist.now in
    let worklist = c.walk_next.new.worklist in
    let same_trail : c.walk_next.new.trail ≡ c.args.trail.now = subst (λ (x : Bool). OnFalse x (c.walk_next.new.trail ≡ c.args.trail.now)) c.if-branch.false c.in_ok-walk_next.ensures.same in
    let same_work : worklist ≡ old = subst (λ (x : Bool). OnFalse x (worklist ≡ old)) c.if-branch.false c.in_ok-walk_next.ensures.same_work in
    let none : NoneIsReady old = subst (λ (x : Bool). OnFalse x (NoneIsReady old)) c.if-branch.false c.in_ok-walk_next.ensures.none in
    all_finished b p f c.walk_next.new.trail worklist
    (subst (λ (t : Trail g.row.M-State.Denot). IsWorking b p f t worklist) (sym same_trail) (subst (λ (w : Worklist g.row.M-Part.Denot). IsWorking b p f c.args.trail.now w) (sym same_work) c.requires.working))
    (subst NoneIsReady (sym same_work) none) (omega (arith, worklist.expanded.ok.0))
