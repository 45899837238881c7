use Rattle.std.proofs.Common.{◌≡◌, ◌≢◌, ◌∙◌, ◌+◌, ℕ, ap, eq-eqb, ne_eqb, rules, sym}
use Rattle.brl_without.proofs.span.spell_span.Goals as goal

pub returns-then-first-last : goal.returns-then-first-last
returns-then-first-last c = rw (eq-eqb c.args.span.first c.args.span.last c.if-first-last.true) c.in_ok-begin.ensures.spelled

pub returns-then-from : goal.returns-then-from
returns-then-from c =
    let span = c.args.span in
    let next : span.last ≡ span.first + 1 = sym c.from.ensures ∙ c.if-from.true ∙ ap (λ (n : ℕ). n + 1) c.from-2.ensures in
    rw (ne_eqb span.first span.last c.if-first-last.false, eq-eqb span.last (span.first + 1) next) c.spell_visibly-then-from.ensures.spelled

pub returns : goal.returns
returns c =
    let span = c.args.span in
    let apart : span.last ≢ span.first + 1 = λ next. c.if-from.false (c.from.ensures ∙ next ∙ ap (λ (n : ℕ). n + 1) (sym c.from-2.ensures)) in
    rw (ne_eqb span.first span.last c.if-first-last.false, ne_eqb span.last (span.first + 1) apart) (search rules)
