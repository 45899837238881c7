-- A tree after all its rules were inserted.
use Rattle.std.proofs.Common.{ℕ, ◌+◌, ◌≡◌, Bool, true, false, cond, List, [], ◌∷◌, ◌++◌, refl, sym, ◌∙◌, ap, append-nil, append_assoc, ◌&&◌, ◌==◌}
use Rattle.brl_rules.specs.declared.rule.Rule.{Rule}
use Rattle.std.specs.Cmp.{first_so, second_so}
use Rattle.brl_rules.specs.Tree.{with_rule, is_just, numbers, ends_of}
use Rattle.brl_rules.proofs.Facts.{nat_eq-itself, same_number}

-- the numbers at `at` after these rules are inserted, numbered from this number on
abbrev pub inserted : List ℕ → ℕ → List Rule → List ℕ → List ℕ
inserted at number [] ends = ends
inserted at number (r ∷ rules) ends = inserted at (number + 1) rules (with_rule r.chars number at ends)

-- the number, if a test holds
abbrev pub given : Bool → ℕ → List ℕ
given b number = cond b (number ∷ []) []

pub with_rule-is : (chars : List ℕ) (number : ℕ) (at ends : List ℕ) → with_rule chars number at ends ≡ ends ++ given (is_just chars at) number
with_rule-is [] number [] ends = refl
with_rule-is [] number (c ∷ at) ends = sym (append-nil ends)
with_rule-is (x ∷ chars) number [] ends = sym (append-nil ends)
with_rule-is (x ∷ chars) number (c ∷ at) ends = cases (x == c) (with_rule-is chars number at ends)
  where
    cases : (b : Bool) → with_rule chars number at ends ≡ ends ++ given (is_just chars at) number
        → cond b (with_rule chars number at ends) ends ≡ ends ++ given (b && is_just chars at) number
    cases true e = e
    cases false e = sym (append-nil ends)

pub just-itself : (chars : List ℕ) → is_just chars chars ≡ true
just-itself [] = refl
just-itself (x ∷ chars) = ap (λ b. b && is_just chars chars) (nat_eq-itself x) ∙ just-itself chars

pub just-same : (chars at : List ℕ) → is_just chars at ≡ true → chars ≡ at
just-same [] [] h = refl
just-same [] (c ∷ at) h = cc
just-same (x ∷ chars) [] h = cc
just-same (x ∷ chars) (c ∷ at) h =
    let first = same_number x c (first_so (x == c) (is_just chars at) h) in
    ap (λ y. y ∷ chars) first ∙ ap (λ xs. c ∷ xs) (just-same chars at (second_so (x == c) (is_just chars at) h))

-- the number, if the test holds, before the others
joined : (b : Bool) (xs : List ℕ) (number : ℕ) (others : List ℕ) → (xs ++ given b number) ++ others ≡ xs ++ cond b (number ∷ others) others
joined true xs number others = append_assoc xs (number ∷ []) others
joined false xs number others = ap (λ ys. ys ++ others) (append-nil xs)

inserted-is : (at : List ℕ) (number : ℕ) (rules : List Rule) (ends : List ℕ) → inserted at number rules ends ≡ ends ++ numbers (λ r. is_just r.chars at) number rules
inserted-is at number [] ends = sym (append-nil ends)
inserted-is at number (r ∷ rules) ends =
    ap (inserted at (number + 1) rules) (with_rule-is r.chars number at ends)
    ∙ inserted-is at (number + 1) rules (ends ++ given (is_just r.chars at) number)
    ∙ joined (is_just r.chars at) ends number (numbers (λ r. is_just r.chars at) (number + 1) rules)

pub inserted-all : (at : List ℕ) (rules : List Rule) → inserted at 0 rules [] ≡ ends_of rules at
inserted-all at rules = inserted-is at 0 rules []
