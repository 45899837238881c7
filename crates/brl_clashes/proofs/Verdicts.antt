-- What the sections of a list of clashes mean for their table.
use Rattle.std.proofs.Common.{◌≡◌, ◌∙◌, ◌<◌, ◌+◌, ◌++◌, ◌&&◌, ℕ, zero, suc, All, Bool, true, false, List, [], ◌∷◌, Some, ap, arith, drop, filter, get_or, inl, inr, length, not, refl, slice_get, subst, sym}
use Rattle.std.specs.Prelude.{◌==◌, ◌||◌, if◌then◌else◌, nat_eq}
use Rattle.std.specs.List.{list_all}
use Rattle.std.proofs.lemmas.Bool.{and_parts, eqb-true}
use Rattle.std.proofs.lemmas.Bool.Decides.{nat_tests}
use Rattle.std.proofs.lemmas.List.{append-nil, drop_all}
use Rattle.std.proofs.lemmas.List.Elements.{All-filter, filter_passes}
use Rattle.std.proofs.lemmas.List.Folds.{list_any-append}
use Rattle.std.proofs.lemmas.Option.{slice_get-get_or}
use Rattle.brl_rules.proofs.Facts.{or-true}
use Rattle.brl_clashes.proofs.Earlier.{uses_fewer}
use Rattle.brl_clashes.specs.Kinds.{kept, kinds_among, left_out_in, of_kinds, or_letter, section_kinds}
use Rattle.brl_clashes.specs.Accepted.{AreLeftOf, IsLeftOf, IsLeftOfList}
use Rattle.brl_clashes.specs.ListedPairs.{has_pair, is_pair}
use Rattle.brl_clashes.specs.Sections.{AreClashesOf, AreListed, AreSections, are_whole, clashes_beside, clashes_of, is_whole, lists_none, outcome_of}
use Rattle.brl_clashes.specs.declared.kind.Kind.{Kind}
use Rattle.brl_clashes.specs.declared.section.Section.{Section}
use Rattle.brl_clashes.specs.declared.verdict.ListOutcome.TheVariants.{Unambiguous, Clashing, Unfinished}
use Rattle.brl_rules.specs.TableView.{TableView}
use Rattle.brl_pairs.specs.Divergence.{are_rules, has_rules}
use Rattle.brl_rules.specs.Translation.{IsClash}
use Rattle.brl_search.proofs.FoundFor.{not_back}
use Rattle.brl_search.specs.Clashes.{AreClashes, AreRuleClashes, ClashesDiverge, IsRuleClash, rules_of_clashes}
use Rattle.brl_traces.proofs.Widening.{clashes_widen}
use Rattle.brl_traces.specs.Traces.{ClashesDivergeAtWithout, TracesDivergeAt}
use Rattle.brl_search.specs.declared.table_clashes.ClashList.{ClashList}
use Rattle.brl_search.specs.declared.table_clashes.ClashList.TheVariants.{Complete, Partial}
use Rattle.brl_search.specs.declared.table_clashes.RuleClash.{RuleClash}
use Rattle.brl_without.specs.LeftOut.{is_left_out, uses_none}
use Rattle.brl_without.specs.Tables.{IsClashWithout, IsUnambiguousWithout}

-- ---- What the outcome says

none_listed : (whole none : Bool) → (if whole then (if none then Unambiguous else Clashing) else Unfinished) ≡ Unambiguous → (whole ≡ true) × (none ≡ true)
none_listed true true e = (refl, refl)
none_listed true false e = absurd cc
none_listed false none e = absurd cc

some_listed : (whole none : Bool) → (if whole then (if none then Unambiguous else Clashing) else Unfinished) ≡ Clashing → none ≡ false
some_listed true true e = absurd cc
some_listed true false e = refl
some_listed false none e = absurd cc

-- ---- Places of a list

module _ {X : Type 0} where
  -- a test that all pass is passed at each place
  passed : (p : X → Bool) (xs : List X) → list_all p xs ≡ true → (place : ℕ) (x : X) → slice_get xs place ≡ Some x → p x ≡ true
  passed p [] all place x there = absurd cc
  passed p (y ∷ xs) all zero x there = let same : y ≡ x = cc in subst (λ (z : X). p z ≡ true) same (and_parts (p y) (list_all p xs) all).0
  passed p (y ∷ xs) all (suc place) x there = passed p xs (and_parts (p y) (list_all p xs) all).1 place x there

  -- a test that not all pass fails at some place
  failed : (p : X → Bool) (xs : List X) → list_all p xs ≡ false → (place : ℕ) × (x : X) × (slice_get xs place ≡ Some x) × (p x ≡ false)
  failed p [] none = absurd cc
  failed p (y ∷ xs) none = cases (p y) refl (λ rest. failed p xs rest)
    where
      cases : (b : Bool) → p y ≡ b → (list_all p xs ≡ false → (place : ℕ) × (x : X) × (slice_get xs place ≡ Some x) × (p x ≡ false))
          → (place : ℕ) × (x : X) × (slice_get (y ∷ xs) place ≡ Some x) × (p x ≡ false)
      cases false e later = (0, y, refl, e)
      cases true e later =
          let rest : list_all p xs ≡ false = subst (λ (b : Bool). (b && list_all p xs) ≡ false) e none in
          let (place, x, there, fails) = later rest in
          (suc place, x, there, fails)

  -- a list with elements has a last one
  last_of : (xs : List X) (n : ℕ) → length xs ≡ suc n → (x : X) × (slice_get xs n ≡ Some x)
  last_of [] n e = absurd (omega (arith, e))
  last_of (x ∷ xs) n e = let l : n < length (x ∷ xs) = omega (arith, e) in (get_or (x ∷ xs) n x, slice_get-get_or (x ∷ xs) n x l)

-- ---- The clashes of sections

module _ (t : TableView) (left_out : List ℕ) (limit : ℕ) where
  rule_clashes : (found : ClashList) → AreClashes left_out t limit found → AreRuleClashes left_out t (clashes_of found)
  rule_clashes (Complete list body) are = are.0
  rule_clashes (Partial list states pairs) are = are.0

  pub of_table : (found : ClashList) → AreListed left_out t limit found → AreClashesOf t (clashes_of found)
  of_table found (inl are) = λ k d within. ((rule_clashes found are).each k d within).clash.clash
  of_table found (inr none) = subst (AreClashesOf t) (sym none.2) (λ k d within. absurd (omega (arith, within)))

-- ---- A table without clashes

-- no pair of rules is one of none
no_divergence : (t : TableView) (left right : List ℕ) → TracesDivergeAt t [] left right → ⊥
no_divergence t left right diverge = let e : false ≡ true = diverge.pair in cc

is_empty : (list : List RuleClash) → (length list == 0) ≡ true → list ≡ []
is_empty [] e = refl
is_empty (clash ∷ list) e = absurd (not_none (length list) e)
  where
    not_none : (n : ℕ) → nat_eq (suc n) 0 ≡ true → ⊥
    not_none n e = grind (arith, nat_tests)

-- the last section leaves out nothing more
filter-none : (characters : List ℕ) → filter (λ (c : ℕ). false) characters ≡ []
filter-none [] = refl
filter-none (c ∷ characters) = filter-none characters

pub nothing_more : (t : TableView) (left_out : List ℕ) (n : ℕ) → length (section_kinds t left_out) ≡ suc n → left_out_in t left_out n ≡ left_out
nothing_more t left_out n e =
    let past : drop (n + 1) (section_kinds t left_out) ≡ [] = drop_all (n + 1) (section_kinds t left_out) (omega (arith, e)) in
    ap (λ later. left_out ++ of_kinds t later (kept t left_out)) past ∙ ap (λ more. left_out ++ more) (filter-none (kept t left_out)) ∙ append-nil left_out

pub has_kinds : (kinds : List Kind) → (n : ℕ) × (length (or_letter kinds) ≡ suc n)
has_kinds [] = (0, refl)
has_kinds (kind ∷ kinds) = (length kinds, refl)

-- ---- What is left beside accepted pairs

-- the clashes that are left of a list are at the pairs that aren't accepted
left_clashes : (accepted : List (ℕ × ℕ)) (found left : ClashList) → IsLeftOfList (has_pair accepted) found left → clashes_of left ≡ clashes_beside accepted (clashes_of found)
left_clashes accepted (Complete list body) (Complete left same) is = is.0
left_clashes accepted (Complete list body) (Partial left states pairs) is = absurd is
left_clashes accepted (Partial list states pairs) (Partial left as_many of_them) is = is.0
left_clashes accepted (Partial list states pairs) (Complete left same) is = absurd is

left_whole : (passes : ℕ × ℕ → Bool) (found left : ClashList) → IsLeftOfList passes found left → is_whole left ≡ is_whole found
left_whole passes (Complete list body) (Complete left same) is = refl
left_whole passes (Complete list body) (Partial left states pairs) is = absurd is
left_whole passes (Partial list states pairs) (Partial left as_many of_them) is = refl
left_whole passes (Partial list states pairs) (Complete left same) is = absurd is

-- what is left at a place is left of the section at that place
left_at : (accepted : List (ℕ × ℕ)) (sections left : List Section) → AreLeftOf (has_pair accepted) sections left → (place : ℕ) (x : Section) → slice_get left place ≡ Some x
    → (s : Section) × (slice_get sections place ≡ Some s) × IsLeftOf (has_pair accepted) s x
left_at accepted [] [] are place x there = absurd cc
left_at accepted [] (y ∷ left) are place x there = absurd are
left_at accepted (s ∷ sections) [] are place x there = absurd are
left_at accepted (s ∷ sections) (y ∷ left) are zero x there = let same : y ≡ x = cc in (s, refl, subst (IsLeftOf (has_pair accepted) s) same are.0)
left_at accepted (s ∷ sections) (y ∷ left) are (suc place) x there = left_at accepted sections left are.1 place x there

left_length : (accepted : List (ℕ × ℕ)) (sections left : List Section) → AreLeftOf (has_pair accepted) sections left → length left ≡ length sections
left_length accepted [] [] are = refl
left_length accepted [] (y ∷ left) are = absurd are
left_length accepted (s ∷ sections) [] are = absurd are
left_length accepted (s ∷ sections) (y ∷ left) are = ap suc (left_length accepted sections left are.1)

pub all_left_whole : (passes : ℕ × ℕ → Bool) (sections left : List Section) → AreLeftOf passes sections left → are_whole left ≡ are_whole sections
all_left_whole passes [] [] are = refl
all_left_whole passes [] (y ∷ left) are = absurd are
all_left_whole passes (s ∷ sections) [] are = absurd are
all_left_whole passes (s ∷ sections) (y ∷ left) are = (λ i. left_whole passes s.found y.found are.0.1 i && all_left_whole passes sections left are.1 i)

-- each clash that is left is one of those of the list, at a pair that isn't accepted
all_left : (P : RuleClash → Type 0) (accepted : List (ℕ × ℕ)) (clashes : List RuleClash) → All P clashes → All P (clashes_beside accepted clashes)
all_left P accepted clashes all = All-filter (λ (clash : RuleClash). not (has_pair accepted (clash.lesser, clash.greater))) P clashes all

-- the texts of the clashes that are left clash by the table
pub left_is_of_table : (t : TableView) (passes : ℕ × ℕ → Bool) (found left : ClashList) → IsLeftOfList passes found left → AreClashesOf t (clashes_of found) → AreClashesOf t (clashes_of left)
left_is_of_table t passes (Complete list body) (Complete left same) is are =
    subst (AreClashesOf t) (sym is.0) (All-filter (λ (clash : RuleClash). not (passes (clash.lesser, clash.greater))) (λ (x : RuleClash). IsClash t x.clash.left x.clash.right x.clash.cells) list.items are)
left_is_of_table t passes (Complete list body) (Partial left states pairs) is are = absurd is
left_is_of_table t passes (Partial list states pairs) (Partial left as_many of_them) is are =
    subst (AreClashesOf t) (sym is.0) (All-filter (λ (clash : RuleClash). not (passes (clash.lesser, clash.greater))) (λ (x : RuleClash). IsClash t x.clash.left x.clash.right x.clash.cells) list.items are)
left_is_of_table t passes (Partial list states pairs) (Complete left same) is are = absurd is

-- ---- A table whose clashes are all accepted

-- a pair of rules that is one of these is so in either order
same_rules : (r s : ℕ) (x y : ℕ × ℕ) → is_pair x y ≡ true → are_rules r s x ≡ are_rules r s y
same_rules r s x y same =
    let (one, other) = and_parts (x.0 == y.0) (x.1 == y.1) same in
    let first = eqb-true x.0 y.0 one in
    let second = eqb-true x.1 y.1 other in
    (λ i. ((first i == r) && (second i == s)) || ((first i == s) && (second i == r)))

known_rules : (r s : ℕ) (accepted : List (ℕ × ℕ)) (pair : ℕ × ℕ) → has_pair accepted pair ≡ true → are_rules r s pair ≡ true → has_rules accepted r s ≡ true
known_rules r s [] pair has is = absurd cc
known_rules r s (x ∷ accepted) pair has is = cases (is_pair pair x) refl (λ e. known_rules r s accepted pair e is) has
  where
    cases : (b : Bool) → is_pair pair x ≡ b → (has_pair accepted pair ≡ true → has_rules accepted r s ≡ true) → (b || has_pair accepted pair) ≡ true → (are_rules r s x || has_rules accepted r s) ≡ true
    cases true same later e = ap (λ b. b || has_rules accepted r s) (sym (same_rules r s pair x same) ∙ is)
    cases false other later e = ap (λ b. are_rules r s x || b) (later e) ∙ or-true (are_rules r s x)

-- where no clash of a list is left, the rules of each are accepted
all_accepted : (accepted : List (ℕ × ℕ)) (list : List RuleClash) → clashes_beside accepted list ≡ [] → (r s : ℕ) → has_rules (rules_of_clashes list) r s ≡ true → has_rules accepted r s ≡ true
all_accepted accepted [] none r s has = absurd cc
all_accepted accepted (x ∷ list) none r s has = cases (has_pair accepted (x.lesser, x.greater)) refl (λ rest. all_accepted accepted list rest r s) none
  where
    by : (b : Bool) → are_rules r s (x.lesser, x.greater) ≡ b → has_pair accepted (x.lesser, x.greater) ≡ true → (has_rules (rules_of_clashes list) r s ≡ true → has_rules accepted r s ≡ true)
        → (b || has_rules (rules_of_clashes list) r s) ≡ true → has_rules accepted r s ≡ true
    by true is known later e = known_rules r s accepted (x.lesser, x.greater) known is
    by false is known later e = later e

    cases : (b : Bool) → has_pair accepted (x.lesser, x.greater) ≡ b → (clashes_beside accepted list ≡ [] → has_rules (rules_of_clashes list) r s ≡ true → has_rules accepted r s ≡ true)
        → (if not b then x ∷ clashes_beside accepted list else clashes_beside accepted list) ≡ [] → has_rules accepted r s ≡ true
    cases true known later rest = by (are_rules r s (x.lesser, x.greater)) refl known (later rest) has
    cases false other later rest = absurd cc

-- a whole list of which no clash is left
none_left : (left_out : List ℕ) (t : TableView) (limit : ℕ) (accepted : List (ℕ × ℕ)) (found left : ClashList) → AreClashes left_out t limit found → IsLeftOfList (has_pair accepted) found left → is_whole left ≡ true → lists_none left ≡ true
    → ClashesDivergeAtWithout left_out accepted t
none_left left_out t limit accepted (Partial list states pairs) (Partial left as_many of_them) are is whole none = absurd cc
none_left left_out t limit accepted (Partial list states pairs) (Complete left same) are is whole none = absurd is
none_left left_out t limit accepted (Complete list body) (Partial left states pairs) are is whole none = absurd is
none_left left_out t limit accepted (Complete list body) (Complete left same) are is whole none =
    let nothing : clashes_beside accepted list.items ≡ [] = sym is.0 ∙ is_empty left.items none in
    clashes_widen t (rules_of_clashes list.items) accepted (all_accepted accepted list.items nothing) left_out are.1.no_other

-- where all sections are whole and no clash is left of them, clashing texts diverge at accepted
-- pairs
pub only_accepted : (t : TableView) (left_out : List ℕ) (limit : ℕ) (accepted : List (ℕ × ℕ)) (sections left : List Section) → AreSections t left_out limit sections → AreLeftOf (has_pair accepted) sections left
    → outcome_of left ≡ Unambiguous → ClashesDivergeAtWithout left_out accepted t
only_accepted t left_out limit accepted sections left are are_left is =
    let (whole, none) = none_listed (are_whole left) (list_all (λ s. lists_none s.found) left) is in
    let (n, many) = has_kinds (kinds_among t (kept t left_out)) in
    let all_whole : are_whole sections ≡ true = sym (all_left_whole (has_pair accepted) sections left are_left) ∙ whole in
    let (x, there) = last_of left n (left_length accepted sections left are_left ∙ are.all all_whole ∙ many) in
    let (s, at, of) = left_at accepted sections left are_left n x there in
    let found = (are.first n s at).all (omega (arith, many)) in
    none_left left_out t limit accepted s.found x.found found of.1 (passed (λ (y : Section). is_whole y.found) left whole n x there) (passed (λ (y : Section). lists_none y.found) left none n x there)

-- where none are accepted, no texts clash
pub none_clash : (t : TableView) (left_out : List ℕ) → ClashesDivergeAtWithout left_out [] t → IsUnambiguousWithout left_out t
none_clash t left_out diverge = λ left right left_is right_is left_none right_none same.
    elim (diverge left right left_is right_is left_none right_none same) [
      | inl e ↦ e
      | inr at ↦ absurd (no_divergence t left right at)
    ]

-- ---- A table with clashes

-- a text that uses none of more characters uses none of some of them
fewer : (some more text : List ℕ) → uses_none (some ++ more) text ≡ true → uses_none some text ≡ true
fewer some more text none = uses_fewer (some ++ more) some (λ c there. list_any-append (nat_eq c) some more ∙ ap (λ (b : Bool). b || is_left_out more c) there) text none

fewer_left_out : (t : TableView) (some more left right cells : List ℕ) → IsClashWithout (some ++ more) t left right cells → IsClashWithout some t left right cells
fewer_left_out t some more left right cells clash =
    record { clash = clash.clash; left_without = fewer some more left clash.left_without; right_without = fewer some more right clash.right_without }

all_beside : (list : List RuleClash) → list ≡ clashes_beside [] list
all_beside [] = refl
all_beside (x ∷ list) = ap (λ (others : List RuleClash). x ∷ others) (all_beside list)

whole_left : (found : ClashList) → IsLeftOfList (has_pair []) found found
whole_left (Complete list body) = (all_beside list.items, refl)
whole_left (Partial list states pairs) = (all_beside list.items, refl, refl)

-- where a whole list has no pair of rules, no two texts clash
pub no_clashes : (t : TableView) (left_out : List ℕ) (limit : ℕ) (found : ClashList) → AreClashes left_out t limit found → is_whole found ≡ true → lists_none found ≡ true → IsUnambiguousWithout left_out t
no_clashes t left_out limit found are whole none = none_clash t left_out (none_left left_out t limit [] found found are (whole_left found) whole none)

-- where no two texts clash, no two clash that use none of more characters
pub narrower : (t : TableView) (left_out more : List ℕ) → IsUnambiguousWithout left_out t → IsUnambiguousWithout (left_out ++ more) t
narrower t left_out more unambiguous = λ left right left_is right_is left_none right_none same.
    unambiguous left right left_is right_is (fewer left_out more left left_none) (fewer left_out more right right_none) same

-- where a clash is left of a list, the list has clashes of the table
some_clashes : (t : TableView) (left_out : List ℕ) (limit : ℕ) (accepted : List (ℕ × ℕ)) (found : ClashList) (left : List RuleClash) → left ≡ clashes_beside accepted (clashes_of found) → (length left == 0) ≡ false
    → AreListed left_out t limit found → AreRuleClashes left_out t (clashes_of found)
some_clashes t left_out limit accepted found left is some (inl are) = rule_clashes t left_out limit found are
some_clashes t left_out limit accepted found left is some (inr none) =
    let nothing : left ≡ [] = is ∙ ap (clashes_beside accepted) none.2 in
    let e : true ≡ false = ap (λ (xs : List RuleClash). length xs == 0) (sym nothing) ∙ some in
    absurd cc

-- the first clash that is left
first_left : (left_out : List ℕ) (t : TableView) (accepted : List (ℕ × ℕ)) (list left : List RuleClash) → left ≡ clashes_beside accepted list → (length left == 0) ≡ false → AreRuleClashes left_out t list
    → (x : RuleClash) × IsRuleClash left_out t x × (has_pair accepted (x.lesser, x.greater) ≡ false)
first_left left_out t accepted list [] is some are = absurd cc
first_left left_out t accepted list (x ∷ left) is some are =
    let each : All (IsRuleClash left_out t) (x ∷ left) = subst (All (IsRuleClash left_out t)) (sym is) (all_left (IsRuleClash left_out t) accepted list are.each) in
    let apart : All (λ y. not (has_pair accepted (y.lesser, y.greater)) ≡ true) (x ∷ left) = subst (All (λ (y : RuleClash). not (has_pair accepted (y.lesser, y.greater)) ≡ true)) (sym is) (filter_passes (λ (y : RuleClash). not (has_pair accepted (y.lesser, y.greater))) list) in
    (x, each 0 x (omega arith), not_back (has_pair accepted (x.lesser, x.greater)) (apart 0 x (omega arith)))

-- where a section has a clash that is left, two texts clash and diverge at a pair that isn't
-- accepted
pub other_clash : (t : TableView) (left_out : List ℕ) (limit : ℕ) (accepted : List (ℕ × ℕ)) (sections left : List Section) → AreSections t left_out limit sections → AreLeftOf (has_pair accepted) sections left
    → outcome_of left ≡ Clashing → (r s : ℕ) × ClashesDiverge left_out t r s × (has_pair accepted (r, s) ≡ false)
other_clash t left_out limit accepted sections left are are_left is =
    let some = some_listed (are_whole left) (list_all (λ s. lists_none s.found) left) is in
    let (place, x, there, lists) = failed (λ (y : Section). lists_none y.found) left some in
    let (s, at, of) = left_at accepted sections left are_left place x there in
    let section = are.first place s at in
    let (clash, is_clash, other) = first_left (left_out_in t left_out place) t accepted (clashes_of s.found) (clashes_of x.found) (left_clashes accepted s.found x.found of.1) lists
    (some_clashes t (left_out_in t left_out place) limit accepted s.found (clashes_of x.found) (left_clashes accepted s.found x.found of.1) lists section.clashes) in (
      clash.lesser,
      clash.greater,
      record {
        left = clash.clash.left;
        right = clash.clash.right;
        cells = clash.clash.cells;
        clash = fewer_left_out t left_out _ clash.clash.left clash.clash.right clash.clash.cells is_clash.clash;
        diverge = is_clash.diverge;
      },
      other,
    )

-- ---- No accepted pairs

-- where no pairs are accepted, all of the sections is left
all_are_left : (sections : List Section) → AreLeftOf (has_pair []) sections sections
all_are_left [] = tt
all_are_left (s ∷ sections) = ((refl, whole_left s.found), all_are_left sections)

-- where all sections are whole and list no pair of rules, no texts clash
pub unambiguous : (t : TableView) (left_out : List ℕ) (limit : ℕ) (sections : List Section) → AreSections t left_out limit sections → outcome_of sections ≡ Unambiguous → IsUnambiguousWithout left_out t
unambiguous t left_out limit sections are is = none_clash t left_out (only_accepted t left_out limit [] sections sections are (all_are_left sections) is)

-- where a section lists a pair of rules, two texts clash
pub clash : (t : TableView) (left_out : List ℕ) (limit : ℕ) (sections : List Section) → AreSections t left_out limit sections → outcome_of sections ≡ Clashing → (left right cells : List ℕ) × IsClashWithout left_out t left right cells
clash t left_out limit sections are is =
    let (r, s, diverge, other) = other_clash t left_out limit [] sections sections are (all_are_left sections) is in
    (diverge.left, diverge.right, diverge.cells, diverge.clash)
