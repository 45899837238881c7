-- What is left of a table without rules and definitions that can't act makes the same of texts.
use Rattle.std.proofs.Common.{◌≡◌, ◌∙◌, ◌↔◌, ◌+◌, ◌&&◌, ◌||◌, ℕ, Bool, true, false, List, [], ◌∷◌, Option, Some, None, ap, cond, filter, length, nat_eq, not, option_map, refl, subst, sym}
use Rattle.std.specs.Cmp.{first_so, second_so}
use Rattle.std.specs.List.{AllByRecursion, list_all, list_any, position_from, starts_with}
use Rattle.std.specs.List.Sorted.{ties}
use Rattle.std.specs.Map.{lookup}
use Rattle.std.proofs.lemmas.Iterator.Adapters.{position_from-zero}
use Rattle.std.proofs.lemmas.List.Elements.{recursion_from_All}
use Rattle.std.proofs.lemmas.List.Kept.{AllPairs-filter}
use Rattle.std.proofs.lemmas.Map.Made.{lookup-map_values}
use Rattle.brl_rules.specs.declared.class.Class.{Class}
use Rattle.brl_rules.specs.declared.rule.Info.{Info}
use Rattle.brl_rules.specs.declared.rule.Rule.{Rule}
use Rattle.brl_rules.specs.Choice.{by_rule, compared, first_fitting, fits, folds_of_capitals, matches}
use Rattle.brl_rules.specs.Places.{after_of, before_of, holds}
use Rattle.brl_rules.specs.Rank.{IsRanking, outranks}
use Rattle.brl_rules.specs.TableView.{TableView, info_of}
use Rattle.brl_rules.specs.Text.{classes_at, classes_of, fold_of, is_capital, is_defined, is_in_caps_run, is_text}
use Rattle.brl_rules.specs.Translation.{IsClash}
use Rattle.brl_rules.proofs.Facts.{and-true, nat_eq-itself, not_both, or-true, same_number}
use Rattle.brl_forward.proofs.UnknownChars.{first_unknown-of_text}
use Rattle.brl_acting.specs.Idle.{AreAlikeOver, DropsCharactersOutside, DropsIdleRules, IsIdle, IsWithoutIdle, essence, essence_of_info, is_over, is_stood_for, stands_for, with_characters, with_rules}
use Rattle.brl_acting.specs.Sets.{is_in}
use Rattle.brl_acting.proofs.AlikeTables.{same_fault, same_first, same_first_of_essence, same_own, same_pick, same_translation, taken_of}

-- ---- Rules that can't act don't fit

-- a list that begins with characters has no other ones there
starts-all : (p : ℕ → Bool) (xs chars : List ℕ) → list_all p xs ≡ true → starts_with nat_eq xs chars ≡ true → list_all p chars ≡ true
starts-all p xs [] all starts = refl
starts-all p [] (x ∷ chars) all starts = cc
starts-all p (y ∷ xs) (x ∷ chars) all starts =
    let same = same_number x y (first_so (nat_eq x y) (starts_with nat_eq xs chars) starts) in
    and-true (p x) (list_all p chars) (ap p same ∙ first_so (p y) (list_all p xs) all)
    (starts-all p xs chars (second_so (p y) (list_all p xs) all) (second_so (nat_eq x y) (starts_with nat_eq xs chars) starts))

module _ (alphabet : List ℕ) (t : TableView) where
  -- the characters of the alphabet stand for themselves, and for what they are folded to
  stands : (all : List ℕ) (c other : ℕ) → stands_for t c other ≡ true → is_in all c ≡ true → list_any (λ a. stands_for t a other) all ≡ true
  stands [] c other so within = cc
  stands (a ∷ all) c other so within = by (nat_eq c a) refl (stands all c other so)
    where
      by : (b : Bool) → nat_eq c a ≡ b → (is_in all c ≡ true → list_any (λ a. stands_for t a other) all ≡ true)
          → (stands_for t a other || list_any (λ a. stands_for t a other) all) ≡ true
      by true e more = ap (λ b. b || list_any (λ a. stands_for t a other) all) (ap (λ x. stands_for t x other) (sym (same_number c a e)) ∙ so)
      by false e more =
          let there : is_in all c ≡ true = ap (λ b. b || is_in all c) (sym e) ∙ within in
          ap (λ b. stands_for t a other || b) (more there) ∙ or-true (stands_for t a other)

  itself : (c : ℕ) → is_in alphabet c ≡ true → is_stood_for t alphabet c ≡ true
  itself c within = stands alphabet c c (ap (λ b. b || nat_eq (fold_of t c) c) (nat_eq-itself c)) within

  its_fold : (c : ℕ) → is_in alphabet c ≡ true → is_stood_for t alphabet (fold_of t c) ≡ true
  its_fold c within = stands alphabet c (fold_of t c) (ap (λ b. nat_eq c (fold_of t c) || b) (nat_eq-itself (fold_of t c)) ∙ or-true (nat_eq c (fold_of t c))) within

  all_stood_for : (rest : List ℕ) → is_over alphabet rest ≡ true → list_all (is_stood_for t alphabet) rest ≡ true
  all_stood_for [] over = refl
  all_stood_for (c ∷ rest) over =
      and-true (is_stood_for t alphabet c) (list_all (is_stood_for t alphabet) rest) (itself c (first_so (is_in alphabet c) (is_over alphabet rest) over))
      (all_stood_for rest (second_so (is_in alphabet c) (is_over alphabet rest) over))

  folds_stood_for : (rest : List ℕ) → is_over alphabet rest ≡ true → list_all (is_stood_for t alphabet) (folds_of_capitals t rest) ≡ true
  folds_stood_for [] over = refl
  folds_stood_for (c ∷ rest) over = by (is_capital (classes_of t c)) (folds_stood_for rest (second_so (is_in alphabet c) (is_over alphabet rest) over))
    where
      by : (b : Bool) → list_all (is_stood_for t alphabet) (folds_of_capitals t rest) ≡ true
          → list_all (is_stood_for t alphabet) (cond b (fold_of t c ∷ folds_of_capitals t rest) []) ≡ true
      by true more =
          and-true (is_stood_for t alphabet (fold_of t c)) (list_all (is_stood_for t alphabet) (folds_of_capitals t rest))
          (its_fold c (first_so (is_in alphabet c) (is_over alphabet rest) over)) more
      by false more = refl

  compared_stood_for : (run : Bool) (rest : List ℕ) → is_over alphabet rest ≡ true → list_all (is_stood_for t alphabet) (compared t run rest) ≡ true
  compared_stood_for run [] over = refl
  compared_stood_for false (c ∷ rest) over =
      and-true (is_stood_for t alphabet (fold_of t c)) (list_all (is_stood_for t alphabet) rest) (its_fold c (first_so (is_in alphabet c) (is_over alphabet rest) over))
      (all_stood_for rest (second_so (is_in alphabet c) (is_over alphabet rest) over))
  compared_stood_for true (c ∷ rest) over =
      and-true (is_stood_for t alphabet (fold_of t c)) (list_all (is_stood_for t alphabet) (folds_of_capitals t rest))
      (its_fold c (first_so (is_in alphabet c) (is_over alphabet rest) over)) (folds_stood_for rest (second_so (is_in alphabet c) (is_over alphabet rest) over))

  matched_stood_for : (run : Bool) (rest chars : List ℕ) → is_over alphabet rest ≡ true → matches t run rest chars ≡ true → list_all (is_stood_for t alphabet) chars ≡ true
  matched_stood_for run rest [] over match = refl
  matched_stood_for run rest (first ∷ others) over match =
      starts-all (is_stood_for t alphabet) (compared t run rest) (first ∷ others) (compared_stood_for run rest over) match

  idle_never_fits : (before : Class) (rest : List ℕ) (r : Rule) → is_over alphabet rest ≡ true → IsIdle t alphabet r.chars → fits t before rest r ≡ false
  idle_never_fits before rest r over idle = by (fits t before rest r) refl
    where
      by : (b : Bool) → fits t before rest r ≡ b → b ≡ false
      by false e = refl
      by true e =
          let run = is_in_caps_run t before rest in
          let match = first_so (matches t run rest r.chars) (holds (before_of r.place) before)
          (first_so (matches t run rest r.chars && holds (before_of r.place) before) (holds (after_of r.place before) (classes_at t rest (length r.chars))) e) in
          absurd (not_both (list_all (is_stood_for t alphabet) r.chars) (matched_stood_for run rest r.chars over match) idle)

-- ---- Fewer rules

module _ (alphabet : List ℕ) (t : TableView) (keeps : Rule → Bool) where
  chosen_of_kept : (before : Class) (rest : List ℕ) → is_over alphabet rest ≡ true → (rules : List Rule)
      → AllByRecursion (λ rule. keeps rule ≡ false → IsIdle t alphabet rule.chars) rules → (n m : ℕ)
      → taken_of (first_fitting (with_rules keeps t) before rest n (filter keeps rules)) ≡ taken_of (first_fitting t before rest m rules)
  chosen_of_kept before rest over [] idle n m = same_own alphabet t (with_rules keeps t) refl (λ c within. refl) rest over
  chosen_of_kept before rest over (r ∷ rules) idle n m = by (keeps r) refl (chosen_of_kept before rest over rules idle.1)
    where
      by : (b : Bool) → keeps r ≡ b
          → ((n m : ℕ) → taken_of (first_fitting (with_rules keeps t) before rest n (filter keeps rules)) ≡ taken_of (first_fitting t before rest m rules))
          → taken_of (first_fitting (with_rules keeps t) before rest n (cond b (r ∷ filter keeps rules) (filter keeps rules))) ≡ taken_of (first_fitting t before rest m (r ∷ rules))
      by true e more =
          same_pick (fits (with_rules keeps t) before rest r) (fits t before rest r) (by_rule n r) (first_fitting (with_rules keeps t) before rest (n + 1) (filter keeps rules))
          (by_rule m r) (first_fitting t before rest (m + 1) rules) refl refl (more (n + 1) (m + 1))
      by false e more =
          let none = idle_never_fits alphabet t before rest r over (idle.0 e) in
          more n (m + 1) ∙ ap (λ b. taken_of (cond b (by_rule m r) (first_fitting t before rest (m + 1) rules))) (sym none)

  pub fewer_rules : DropsIdleRules alphabet t keeps → AreAlikeOver alphabet t (with_rules keeps t)
  fewer_rules idle =
      let all = recursion_from_All (λ rule. keeps rule ≡ false → IsIdle t alphabet rule.chars) t.rules idle in
      record {
        cells = λ text over. same_translation alphabet t (with_rules keeps t) refl (λ c within. refl) (λ before rest over. chosen_of_kept before rest over t.rules all 0 0) text over;
        faults = λ text over. refl;
      }

-- ---- Fewer definitions

module _ (alphabet : List ℕ) (t : TableView) (keeps : ℕ → Bool) where
  found_kept : (c : ℕ) → is_in alphabet c ≡ true → (entries : List (ℕ × Info))
      → AllByRecursion (λ entry. keeps entry.0 ≡ false → is_in alphabet entry.0 ≡ false) entries
      → lookup (nat_eq c) (filter (λ entry. keeps entry.0) entries) ≡ lookup (nat_eq c) entries
  found_kept c within [] idle = refl
  found_kept c within (entry ∷ entries) idle = by (keeps entry.0) (nat_eq c entry.0) refl refl (found_kept c within entries idle.1)
    where
      left : List (ℕ × Info)
      left = filter (λ entry. keeps entry.0) entries

      by : (b d : Bool) → keeps entry.0 ≡ b → nat_eq c entry.0 ≡ d → lookup (nat_eq c) left ≡ lookup (nat_eq c) entries
          → lookup (nat_eq c) (cond b (entry ∷ left) left) ≡ cond d (Some entry.1) (lookup (nat_eq c) entries)
      by true d e f more = ap (λ d. cond d (Some entry.1) (lookup (nat_eq c) left)) f ∙ ap (cond d (Some entry.1)) more
      by false false e f more = more
      by false true e f more = absurd (not_both (is_in alphabet entry.0) (ap (is_in alphabet) (sym (same_number c entry.0 f)) ∙ within) (idle.0 e))

  pub fewer_definitions : DropsCharactersOutside alphabet t keeps → AreAlikeOver alphabet t (with_characters keeps t)
  fewer_definitions idle =
      let all = recursion_from_All (λ (entry : ℕ × Info). keeps entry.0 ≡ false → is_in alphabet entry.0 ≡ false) t.characters idle in
      let other = with_characters keeps t in
      let infos = λ (c : ℕ) (within : is_in alphabet c ≡ true). ap (option_map essence_of_info) (found_kept c within t.characters all) in
      record {
        cells = same_translation alphabet t other refl infos (λ before rest over. same_first alphabet t other refl infos before rest over t.rules 0 0);
        faults = same_fault alphabet t other refl infos;
      }

-- ---- Numbers, places of lines and notices

essence-twice : (o : Option Info) → option_map essence_of_info (option_map essence_of_info o) ≡ option_map essence_of_info o
essence-twice None = refl
essence-twice (Some info) = refl

pub essence_alike : (alphabet : List ℕ) (t : TableView) → AreAlikeOver alphabet t (essence t)
essence_alike alphabet t =
    let infos = λ (c : ℕ) (within : is_in alphabet c ≡ true).
    ap (option_map essence_of_info) (lookup-map_values essence_of_info (nat_eq c) t.characters) ∙ essence-twice (info_of t c) in
    record {
      cells = same_translation alphabet t (essence t) refl infos (λ before rest over. same_first_of_essence alphabet t (essence t) refl infos before rest over t.rules 0 0);
      faults = same_fault alphabet t (essence t) refl infos;
    }

-- ---- Both

pub alike_trans : (alphabet : List ℕ) (t other third : TableView) → AreAlikeOver alphabet t other → AreAlikeOver alphabet other third → AreAlikeOver alphabet t third
alike_trans alphabet t other third first second = record {
  cells = λ text over. second.cells text over ∙ first.cells text over;
  faults = λ text over. second.faults text over ∙ first.faults text over;
}

pub alike_sym : (alphabet : List ℕ) (t other : TableView) → AreAlikeOver alphabet t other → AreAlikeOver alphabet other t
alike_sym alphabet t other alike = record { cells = λ text over. sym (alike.cells text over); faults = λ text over. sym (alike.faults text over) }

pub fewer_lines : (alphabet : List ℕ) (t fewer : TableView) → IsWithoutIdle alphabet t fewer → AreAlikeOver alphabet t fewer
fewer_lines alphabet t fewer is =
    let rules = with_rules is.keeps_rule t in
    let left = with_characters is.keeps_character rules in
    let kept = alike_trans alphabet t rules left (fewer_rules alphabet t is.keeps_rule is.rules) (fewer_definitions alphabet rules is.keeps_character is.definitions) in
    let essential : AreAlikeOver alphabet t (essence fewer) =
    subst (λ (other : TableView). AreAlikeOver alphabet t other) (sym is.left) (alike_trans alphabet t left (essence left) kept (essence_alike alphabet left)) in
    alike_trans alphabet t (essence fewer) fewer essential (alike_sym alphabet fewer (essence fewer) (essence_alike alphabet fewer))

-- ---- Clashes

all_defined : (t : TableView) (n : ℕ) (text : List ℕ) → position_from (λ c. not (is_defined t c)) n text ≡ None → is_text t text ≡ true
all_defined t n [] none = refl
all_defined t n (c ∷ text) none = by (is_defined t c) none (all_defined t (n + 1) text)
  where
    by : (b : Bool) → cond (not b) (Some n) (position_from (λ c. not (is_defined t c)) (n + 1) text) ≡ None
        → (position_from (λ c. not (is_defined t c)) (n + 1) text ≡ None → is_text t text ≡ true) → (b && is_text t text) ≡ true
    by true none more = more none
    by false none more = cc

module _ (alphabet : List ℕ) (t other : TableView) (alike : AreAlikeOver alphabet t other) where
  text_alike : (text : List ℕ) → is_over alphabet text ≡ true → is_text t text ≡ true → is_text other text ≡ true
  text_alike text over is =
      all_defined other 0 text (sym (position_from-zero (λ c. not (is_defined other c)) text) ∙ alike.faults text over ∙ first_unknown-of_text t text is)

  clash_alike : (left right cells : List ℕ) → is_over alphabet left ≡ true → is_over alphabet right ≡ true → IsClash t left right cells → IsClash other left right cells
  clash_alike left right cells over_left over_right clash = record {
    left_text = text_alike left over_left clash.left_text;
    right_text = text_alike right over_right clash.right_text;
    differ = clash.differ;
    left_cells = alike.cells left over_left ∙ clash.left_cells;
    right_cells = alike.cells right over_right ∙ clash.right_cells;
  }

pub same_clashes : (alphabet : List ℕ) (t other : TableView) → AreAlikeOver alphabet t other → (left right cells : List ℕ)
    → is_over alphabet left ≡ true → is_over alphabet right ≡ true → IsClash other left right cells ↔ IsClash t left right cells
same_clashes alphabet t other alike left right cells over_left over_right = (
  clash_alike alphabet other t (alike_sym alphabet t other alike) left right cells over_left over_right,
  clash_alike alphabet t other alike left right cells over_left over_right,
)

-- ---- Ranks

filters_swap : (p q : Rule → Bool) (rules : List Rule) → filter p (filter q rules) ≡ filter q (filter p rules)
filters_swap p q [] = refl
filters_swap p q (r ∷ rules) = by (p r) (q r) refl refl (filters_swap p q rules)
  where
    by : (b d : Bool) → p r ≡ b → q r ≡ d → filter p (filter q rules) ≡ filter q (filter p rules)
        → filter p (cond d (r ∷ filter q rules) (filter q rules)) ≡ filter q (cond b (r ∷ filter p rules) (filter p rules))
    by true true e f more = ap (λ b. cond b (r ∷ filter p (filter q rules)) (filter p (filter q rules))) e ∙ ap (λ rs. r ∷ rs) more
        ∙ sym (ap (λ b. cond b (r ∷ filter q (filter p rules)) (filter q (filter p rules))) f)
    by true false e f more = more ∙ sym (ap (λ b. cond b (r ∷ filter q (filter p rules)) (filter q (filter p rules))) f)
    by false true e f more = ap (λ b. cond b (r ∷ filter p (filter q rules)) (filter p (filter q rules))) e ∙ more
    by false false e f more = more

pub fewer_ranked : (lines ranked : List Rule) (keeps : Rule → Bool) → IsRanking lines ranked → IsRanking (filter keeps lines) (filter keeps ranked)
fewer_ranked lines ranked keeps is = record {
  higher_first = AllPairs-filter (λ (r s : Rule). outranks s r ≡ false) keeps ranked is.higher_first;
  in_lines_order = λ r. filters_swap (ties outranks r) keeps ranked ∙ ap (filter keeps) (is.in_lines_order r) ∙ filters_swap keeps (ties outranks r) lines;
}
