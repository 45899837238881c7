use Rattle.std.proofs.Common.{◌≡◌, ◌∙◌, ◌+◌, [], List, ℕ, Option, None, Some, Bor, ap, arith, drop, lit<, sym, length, MatchOption}
use Rattle.std.specs.List.{after_first}
use Rattle.std.proofs.lemmas.List.{drop_all}
use Rattle.std.proofs.lemmas.Str.Pattern.{IsSplitOnceResult, split_once_first}
use Rattle.brl_explain.specs.Explaining.{is_blank}
use Rattle.brl_explain.proofs.explaining.after_first_word.Goals as goal

back : (line : List ℕ) (r : Option (Bor (List ℕ) × Bor (List ℕ))) → IsSplitOnceResult 32 line r
    → MatchOption r ([] ≡ after_first is_blank line) (λ x. x.1.now ≡ after_first is_blank line)
back line None h = sym (ap (λ n. drop (n + 1) line) (split_once_first 32 line None h (lit< tt)) ∙ drop_all (length line + 1) line (omega arith))
back line (Some x) h = (split_once_first 32 line (Some x) h (lit< tt)).2

pub returns-in-Some : goal.returns-in-Some
returns-in-Some c = rw c.in-Some.is at (back c.args.line.now c.split_once.result c.split_once.ensures.cases)

pub returns-in-None : goal.returns-in-None
returns-in-None c = rw c.in-None.is at (back c.args.line.now c.split_once.result c.split_once.ensures.cases)
