use Rattle.std.proofs.Common.{◌≡◌, ◌-◌, ◌++◌, ◌∙◌, ap, cond, nat_eq, length, take, replicate, arith, refl}
use Rattle.brl_rules.proofs.PageSteps.{place-set}
use Rattle.brl_rules.proofs.pages.Pages.set.Goals as goal

pub returns : goal.returns
returns c = λ x.
    let old = c.index_mut-page.result.now in
    let count : 256 - old.len ≡ 256 - length old.items = omega (arith, old.ok) in
    let long : length c.resize.new.self.items ≡ 256 = omega (arith, c.in_ok-resize.ensures.len, c.resize.new.self.ok) in
    place-set c.reach.new.self.pages.items c.args.character c.args.place old _ c.resize.new.self.items c.in_ok-reach.ensures.reached c.index_mut-page.ensures.value
    (c.in_ok-resize.ensures.items ∙ ap (λ n. take 256 old.items ++ replicate n 65535) count) long refl x
    ∙ ap (cond (nat_eq x c.args.character) c.args.place) (c.in_ok-reach.ensures.same x)
