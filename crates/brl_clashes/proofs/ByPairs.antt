-- What is left beside excused pairs is left beside those of them that are listed.
use Rattle.std.proofs.Common.{◌≡◌, ◌∙◌, ◌++◌, ◌&&◌, ◌||◌, ℕ, All, Bool, true, false, List, [], ◌∷◌, ap, arith, filter, fold, not, refl, sym, suc}
use Rattle.std.specs.Prelude.{◌==◌, get_or, if◌then◌else◌}
use Rattle.std.proofs.lemmas.Bool.{and_parts, eq-eqb, eqb-true}
use Rattle.std.proofs.lemmas.List.Elements.{All-cons, All-nil}
use Rattle.std.proofs.lemmas.List.Folds.{list_any-append}
use Rattle.brl_accepted.specs.Reading.{excused_of, is_excused}
use Rattle.brl_clashes.specs.Accepted.{AreLeftOf, IsLeftOfList}
use Rattle.brl_clashes.specs.ListedPairs.{has_pair, is_pair}
use Rattle.brl_clashes.specs.Sections.{clashes_beside, clashes_but, clashes_of, listed_after, listed_pairs}
use Rattle.brl_clashes.specs.declared.section.Section.{Section}
use Rattle.brl_pairs.specs.declared.excused.Excused.{Excused}
use Rattle.brl_search.specs.Clashes.{rules_of_clashes}
use Rattle.brl_search.specs.declared.table_clashes.ClashList.{ClashList}
use Rattle.brl_search.specs.declared.table_clashes.ClashList.TheVariants.{Complete, Partial}
use Rattle.brl_search.specs.declared.table_clashes.RuleClash.{RuleClash}

-- ---- Pairs of a list

-- a pair that is another is the same
same_pair : (p x : ℕ × ℕ) → is_pair p x ≡ true → p ≡ x
same_pair p x same =
    let (one, other) = and_parts (p.0 == x.0) (p.1 == x.1) same in
    let first = eqb-true p.0 x.0 one in
    let second = eqb-true p.1 x.1 other in
    (λ i. (first i, second i))

is_itself : (p : ℕ × ℕ) → is_pair p p ≡ true
is_itself p = ap (λ (b : Bool). b && (p.1 == p.1)) (eq-eqb p.0 p.0 refl) ∙ eq-eqb p.1 p.1 refl

-- a listed pair is among those that pass a test, if it passes
has_passing : (passes : ℕ × ℕ → Bool) (pairs : List (ℕ × ℕ)) (p : ℕ × ℕ) → has_pair pairs p ≡ true → has_pair (filter passes pairs) p ≡ passes p
has_passing passes pairs p has = whole pairs ∙ ap (λ (b : Bool). passes p && b) has ∙ and_true (passes p)
  where
    and_true : (a : Bool) → (a && true) ≡ a
    and_true true = refl
    and_true false = refl

    one : (x : ℕ × ℕ) (a b : Bool) (rest : Bool) → passes x ≡ a → is_pair p x ≡ b → (if_kept : Bool) → if_kept ≡ (passes p && rest) → (a && b || if_kept) ≡ (passes p && (b || rest))
    one x true true rest is same kept of = sym (ap (λ (c : Bool). c && true) (ap passes (same_pair p x same) ∙ is))
    one x true false rest is same kept of = of
    one x false true rest is same kept of =
        let no : passes p ≡ false = ap passes (same_pair p x same) ∙ is in
        of ∙ ap (λ (c : Bool). c && rest) no ∙ sym (ap (λ (c : Bool). c && true) no)
    one x false false rest is same kept of = of

    split : (x : ℕ × ℕ) (xs : List (ℕ × ℕ)) (a : Bool) → passes x ≡ a → has_pair (filter passes (x ∷ xs)) p ≡ (a && is_pair p x || has_pair (filter passes xs) p)
    split x xs true is = ap (λ (b : Bool). has_pair (if b then x ∷ filter passes xs else filter passes xs) p) is
    split x xs false is = ap (λ (b : Bool). has_pair (if b then x ∷ filter passes xs else filter passes xs) p) is

    whole : (xs : List (ℕ × ℕ)) → has_pair (filter passes xs) p ≡ (passes p && has_pair xs p)
    whole [] = sym (and_false (passes p))
      where
        and_false : (a : Bool) → (a && false) ≡ false
        and_false true = refl
        and_false false = refl
    whole (x ∷ xs) = split x xs (passes x) refl ∙ one x (passes x) (is_pair p x) (has_pair xs p) refl refl (has_pair (filter passes xs) p) (whole xs)

-- a pair stays listed where others are listed after it
stays : (before more : List (ℕ × ℕ)) (p : ℕ × ℕ) → has_pair before p ≡ true → has_pair (before ++ more) p ≡ true
stays before more p has = list_any-append (is_pair p) before more ∙ ap (λ (b : Bool). b || has_pair more p) has

stays_after : (before : List (ℕ × ℕ)) (sections : List Section) (p : ℕ × ℕ) → has_pair before p ≡ true → has_pair (fold listed_after before sections) p ≡ true
stays_after before [] p has = has
stays_after before (s ∷ sections) p has = stays_after (listed_after before s) sections p (stays before _ p has)

-- ---- The pairs of clashes are listed

-- these clashes are at listed pairs
abbrev AreAt : List (ℕ × ℕ) → List RuleClash → Type 0
AreAt pairs clashes = All (λ x. has_pair pairs (x.lesser, x.greater) ≡ true) clashes

-- those of a list are at pairs that were listed before, or are then
at_either : (before : List (ℕ × ℕ)) (clashes : List RuleClash) → All (λ x. (has_pair before (x.lesser, x.greater) || has_pair (rules_of_clashes (clashes_beside before clashes)) (x.lesser, x.greater)) ≡ true) clashes
at_either before [] = All-nil (λ (x : RuleClash). (has_pair before (x.lesser, x.greater) || has_pair [] (x.lesser, x.greater)) ≡ true)
at_either before (c ∷ clashes) =
    All-cons (λ (x : RuleClash). (has_pair before (x.lesser, x.greater) || has_pair (rules_of_clashes (clashes_beside before (c ∷ clashes))) (x.lesser, x.greater)) ≡ true) c clashes
    (first (has_pair before (c.lesser, c.greater)) refl)
    (λ k d within. (let x = get_or clashes k d in later (x.lesser, x.greater) (has_pair before (c.lesser, c.greater)) refl (at_either before clashes k d within)))
  where
    first : (b : Bool) → has_pair before (c.lesser, c.greater) ≡ b
        → (has_pair before (c.lesser, c.greater) || has_pair (rules_of_clashes (if not (has_pair before (c.lesser, c.greater)) then c ∷ clashes_beside before clashes else clashes_beside before clashes)) (c.lesser, c.greater)) ≡ true
    first true is = ap (λ (b : Bool). b || has_pair (rules_of_clashes (if not b then c ∷ clashes_beside before clashes else clashes_beside before clashes)) (c.lesser, c.greater)) is
    first false is =
        ap (λ (b : Bool). b || has_pair (rules_of_clashes (if not b then c ∷ clashes_beside before clashes else clashes_beside before clashes)) (c.lesser, c.greater)) is
        ∙ ap (λ (b : Bool). b || has_pair (rules_of_clashes (clashes_beside before clashes)) (c.lesser, c.greater)) (is_itself (c.lesser, c.greater))

    later : (p : ℕ × ℕ) (b : Bool) → has_pair before (c.lesser, c.greater) ≡ b → (has_pair before p || has_pair (rules_of_clashes (clashes_beside before clashes)) p) ≡ true
        → (has_pair before p || has_pair (rules_of_clashes (if not (has_pair before (c.lesser, c.greater)) then c ∷ clashes_beside before clashes else clashes_beside before clashes)) p) ≡ true
    later p true is either = ap (λ (b : Bool). has_pair before p || has_pair (rules_of_clashes (if not b then c ∷ clashes_beside before clashes else clashes_beside before clashes)) p) is ∙ either
    later p false is either =
        ap (λ (b : Bool). has_pair before p || has_pair (rules_of_clashes (if not b then c ∷ clashes_beside before clashes else clashes_beside before clashes)) p) is
        ∙ wider (has_pair before p) (is_pair p (c.lesser, c.greater)) (has_pair (rules_of_clashes (clashes_beside before clashes)) p) either
      where
        wider : (a b e : Bool) → (a || e) ≡ true → (a || (b || e)) ≡ true
        wider true b e is = refl
        wider false true e is = refl
        wider false false e is = is

-- a section's own clashes are at pairs that are listed after it
own_at : (before : List (ℕ × ℕ)) (s : Section) → AreAt (listed_after before s) (clashes_of s.found)
own_at before s = λ k d within. (let x = get_or (clashes_of s.found) k d in
    list_any-append (is_pair (x.lesser, x.greater)) before (rules_of_clashes (clashes_beside before (clashes_of s.found))) ∙ at_either before (clashes_of s.found) k d within)

all_at : (before : List (ℕ × ℕ)) (sections : List Section) → All (λ s. AreAt (fold listed_after before sections) (clashes_of s.found)) sections
all_at before [] = All-nil (λ s. AreAt (fold listed_after before []) (clashes_of s.found))
all_at before (s ∷ sections) =
    All-cons (λ (x : Section). AreAt (fold listed_after before (s ∷ sections)) (clashes_of x.found)) s sections own (all_at (listed_after before s) sections)
  where
    own : AreAt (fold listed_after before (s ∷ sections)) (clashes_of s.found)
    own = λ k d within. (let x = get_or (clashes_of s.found) k d in stays_after (listed_after before s) sections (x.lesser, x.greater) (own_at before s k d within))

-- ---- What is left

same_filter : {X : Type 0} (f g : X → Bool) (xs : List X) → All (λ x. f x ≡ g x) xs → filter f xs ≡ filter g xs
same_filter f g [] same = refl
same_filter {X} f g (x ∷ xs) same =
    let first : f x ≡ g x = same 0 x (omega arith) in
    let rest : filter f xs ≡ filter g xs = same_filter f g xs (λ k d within. same (suc k) d (omega arith)) in
    (λ i. if first i then x ∷ rest i else rest i)

-- clashes at listed pairs are excused where their pair is among the excused of the list
same_left : (excused : Excused) (listed : List (ℕ × ℕ)) (clashes : List RuleClash) → AreAt listed clashes → clashes_but (is_excused excused) clashes ≡ clashes_but (has_pair (excused_of excused listed)) clashes
same_left excused listed clashes at =
    same_filter (λ (x : RuleClash). not (is_excused excused (x.lesser, x.greater))) (λ (x : RuleClash). not (has_pair (excused_of excused listed) (x.lesser, x.greater))) clashes
    (λ k d within. (let x = get_or clashes k d in ap not (sym (has_passing (is_excused excused) listed (x.lesser, x.greater) (at k d within)))))

left_list : (excused : Excused) (listed : List (ℕ × ℕ)) (found left : ClashList) → AreAt listed (clashes_of found) → IsLeftOfList (is_excused excused) found left → IsLeftOfList (has_pair (excused_of excused listed)) found left
left_list excused listed (Complete list body) (Complete left same) at is = (is.0 ∙ same_left excused listed list.items at, is.1)
left_list excused listed (Complete list body) (Partial left states pairs) at is = absurd is
left_list excused listed (Partial list states pairs) (Partial left as_many of_them) at (is, one, other) = (is ∙ same_left excused listed list.items at, one, other)
left_list excused listed (Partial list states pairs) (Complete left same) at is = absurd is

left_among : (excused : Excused) (listed : List (ℕ × ℕ)) (sections left : List Section) → All (λ s. AreAt listed (clashes_of s.found)) sections → AreLeftOf (is_excused excused) sections left
    → AreLeftOf (has_pair (excused_of excused listed)) sections left
left_among excused listed [] [] at are = tt
left_among excused listed [] (x ∷ left) at are = absurd are
left_among excused listed (s ∷ sections) [] at are = absurd are
left_among excused listed (s ∷ sections) (x ∷ left) at are =
    ((are.0.0, left_list excused listed s.found x.found (at 0 s (omega arith)) are.0.1), left_among excused listed sections left (λ k d within. at (suc k) d (omega arith)) are.1)

-- what is left of sections beside what is excused is left beside the excused pairs that they list
pub left_by_pairs : (excused : Excused) (sections left : List Section) → AreLeftOf (is_excused excused) sections left → AreLeftOf (has_pair (excused_of excused (listed_pairs sections))) sections left
left_by_pairs excused sections left are = left_among excused (listed_pairs sections) sections left (all_at [] sections) are
