use Rattle.std.proofs.Common.{◌≡◌, ◌≢◌, ℕ, ◌+◌, ◌-◌, ◌<◌, ◌≤◌, true, nat_eq, List, length, take, drop, get_or, ap, ◌∙◌, arith, length-drop}
use Rattle.std.proofs.lemmas.List.{take_rest, get_or-drop}
use Rattle.brl_lines.proofs.cut.feed_from.Goals as goal

-- the bytes from `at` on
abbrev bytes_from : List ℕ → ℕ → List ℕ
bytes_from bs at = take (length bs - at) (drop at bs)

-- where no line feed is among the first n of these, none is before at + n
no_feed : (bs : List ℕ) (at n : ℕ) → ((k : ℕ) → 0 ≤ k → k < n → nat_eq (get_or (bytes_from bs at) k 0) 10 ≡ true → ⊥)
    → (k : ℕ) → at ≤ k → k < at + n → get_or bs k 0 ≢ 10
no_feed bs at n none k low high is =
    let there : at + (k - at) ≡ k = omega arith in
    let same : get_or (bytes_from bs at) (k - at) 0 ≡ get_or bs k 0 =
    ap (λ xs. get_or xs (k - at) 0) (take_rest bs at) ∙ get_or-drop at bs (k - at) 0 ∙ ap (λ j. get_or bs j 0) there in
    none (k - at) (omega arith) (omega arith) (ap (λ b. nat_eq b 10) (same ∙ is))

pub returns-in-Some-clause-before : goal.returns-in-Some-clause-before
returns-in-Some-clause-before c = no_feed c.args.bytes.now c.args.at c.in-Some.ahead c.in-Some.ensures.0.before

pub returns-in-None-clause-before : goal.returns-in-None-clause-before
returns-in-None-clause-before c =
    let bs = c.args.bytes.now in
    let whole : c.args.at + length (bytes_from bs c.args.at) ≡ length bs = omega (arith, ap length (take_rest bs c.args.at), length-drop c.args.at bs) in
    λ k low high. no_feed bs c.args.at (length (bytes_from bs c.args.at)) c.in-None.ensures k low (omega (arith, whole))
