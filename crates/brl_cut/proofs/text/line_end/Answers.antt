use Rattle.std.proofs.Common.{◌≡◌, ◌∙◌, ◌+◌, ◌-◌, ◌∷◌, ℕ, List, ap, sym, arith, drop, take, length, length-drop}
use Rattle.std.proofs.lemmas.List.{drop_all, drop-drop, take_rest}
use Rattle.brl_cut.specs.Edits.{whole_lines}
use Rattle.brl_cut.proofs.WholeLines.{end-cuts, feed-cuts}
use Rattle.brl_cut.proofs.text.line_end.Goals as goal

pub returns-in-Some-clause-cuts : goal.returns-in-Some-clause-cuts
returns-in-Some-clause-cuts c =
    let text = c.args.text.now in
    let at = c.args.at in
    let n = c.in-Some.ahead in
    let rest = take_rest text at in
    let cuts = feed-cuts _ n c.in-Some.ensures.0.high c.in-Some.ensures.0.before c.in-Some.ensures.1 in
    let there : at + n + 1 - at ≡ n + 1 = omega arith in
    let past : at + (n + 1) ≡ at + n + 1 = omega arith in
    ap whole_lines (sym rest) ∙ cuts ∙ ap (λ (xs : List ℕ). take (n + 1) xs ∷ whole_lines (drop (n + 1) xs)) rest
    ∙ ap (λ m. take m (drop at text) ∷ whole_lines (drop (n + 1) (drop at text))) (sym there)
    ∙ ap (λ (xs : List ℕ). take (at + n + 1 - at) (drop at text) ∷ whole_lines xs) (drop-drop (n + 1) at text ∙ ap (λ m. drop m text) past)

pub returns-in-None-clause-cuts : goal.returns-in-None-clause-cuts
returns-in-None-clause-cuts c =
    let text = c.args.text.now in
    let at = c.args.at in
    let rest = take_rest text at in
    let size : length (take (length text - at) (drop at text)) ≡ length text - at = ap length rest ∙ length-drop at text in
    let one = end-cuts _ (omega (arith, size, c.requires)) c.in-None.ensures in
    ap whole_lines (sym rest) ∙ one ∙ ap (λ (xs : List ℕ). take (length text - at) (drop at text) ∷ whole_lines xs) (sym (drop_all (length text) text (omega arith)))
