-- What holds of what each rule of a table says.
use Rattle.std.proofs.Common.{◌≡◌, ◌∙◌, ◌<◌, ◌-◌, ◌+◌, ◌||◌, ℕ, zero, suc, All, Bool, true, false, List, [], ◌∷◌, Option, None, Some, ap, arith, codes, get_or, if◌then◌else◌, inl, inr, is_some, length, map, option_map, refl, slice_get, subst, sym}
use Rattle.std.specs.Cmp.{first_so, second_so}
use Rattle.std.specs.List.{list_all, list_any}
use Rattle.std.specs.Option.{option_and_then, option_map_or, option_or}
use Rattle.std.specs.Prelude.{nat_eq}
use Rattle.std.specs.Str.{bytes_eq}
use Rattle.std.proofs.lemmas.Bool.{cases_lt}
use Rattle.std.proofs.lemmas.Bool.Decides.{Decides-eqb}
use Rattle.std.proofs.lemmas.List.{length-map}
use Rattle.std.proofs.lemmas.List.Folds.{list_any_at}
use Rattle.std.proofs.lemmas.List.FromFn.{get_or-map-range_with_len, get_or-range_with_len, length-range_with_len}
use Rattle.std.proofs.lemmas.Map.Made.{is_some-lookup}
use Rattle.std.proofs.lemmas.Option.{slice_get-get_or}
use Rattle.std.proofs.lemmas.Slice.Eq.{bytes_eq-Decides}
use Rattle.brl_accepted.specs.Pairs.{said, wording}
use Rattle.brl_lines.specs.Tokens.{LineView}
use Rattle.brl_report.specs.Rules.{ListedView, known_opcode, of_character, of_rule, own_definition, rule_count, rule_numbers, rule_with_number, rule_words, said_rule}
use Rattle.brl_rules.specs.TableView.{TableView, info_of}
use Rattle.brl_table.specs.Words.{opcode_words}

-- ---- Opcodes

one_of : (test : List ℕ → Bool) (word : List ℕ) (words : List (List ℕ)) → list_all test words ≡ true → list_any (bytes_eq word) words ≡ true → test word ≡ true
one_of test word [] all any = absurd cc
one_of test word (w ∷ words) all any = cases (bytes_eq word w) refl (one_of test word words (second_so (test w) _ all)) any
  where
    cases : (b : Bool) → bytes_eq word w ≡ b → (list_any (bytes_eq word) words ≡ true → test word ≡ true) → (b || list_any (bytes_eq word) words) ≡ true → test word ≡ true
    cases true same later is = ap test ((bytes_eq-Decides word w).0 same) ∙ first_so _ _ all
    cases false other later is = later is

-- the opcode that a rule says passes a test that each opcode and `rule` pass
pub opcode_passes : (test : List ℕ → Bool) → list_all test opcode_words ≡ true → test (codes "rule") ≡ true → (word : List ℕ) → test (known_opcode word) ≡ true
opcode_passes test all other word = cases (list_any (bytes_eq word) opcode_words) refl
  where
    cases : (b : Bool) → list_any (bytes_eq word) opcode_words ≡ b → test (if b then word else codes "rule") ≡ true
    cases true is = one_of test word opcode_words all is
    cases false is = other

-- ---- Rules by their numbers

module _ (P : List ℕ → Type 0) (t : TableView) (lines : List LineView) where
  looked_up : (found : Option ListedView) → P [] → ((x : ListedView) → found ≡ Some x → P (said_rule t lines x)) → P (option_map_or (said_rule t lines) found [])
  looked_up None none each = none
  looked_up (Some x) none each = each x refl

  mapped : P [] → ((number : ℕ) → P (rule_words t lines number)) → (numbers : List ℕ) (k : ℕ) → P (get_or (map (rule_words t lines) numbers) k [])
  mapped none each [] k = none
  mapped none each (n ∷ numbers) zero = each n
  mapped none each (n ∷ numbers) (suc k) = mapped none each numbers k

  -- what holds of nothing and of each rule holds of what each number's rule says
  pub each_says : P [] → ((number : ℕ) (x : ListedView) → rule_with_number t number ≡ Some x → P (said_rule t lines x)) → (number : ℕ) → P (said (wording t lines) number)
  each_says none each number = mapped none (λ n. looked_up (rule_with_number t n) none (each n)) (rule_numbers t) number

-- ---- Numbers that rules have

same_test : {A B : Type 0} (f : A → B) (x : Option A) → is_some (option_map f x) ≡ is_some x
same_test f None = refl
same_test f (Some x) = refl

own_there : (t : TableView) (place : ℕ) → place < length t.characters → is_some (own_definition t place) ≡ true
own_there t place within =
    let keys = map (λ entry. entry.0) t.characters in
    let inside : place < length keys = omega (arith, within, length-map t.characters (λ entry. entry.0)) in
    let c = get_or keys place 0 in
    ap (λ found. is_some (option_and_then (λ c. option_map (of_character c) (info_of t c)) found)) (slice_get-get_or keys place 0 inside) ∙ same_test (of_character c) (info_of t c)
    ∙ is_some-lookup (nat_eq c) t.characters ∙ list_any_at (nat_eq c) keys place 0 inside ((Decides-eqb c c).1 refl)

either_there : (one other : Option ListedView) → (is_some one ≡ false → is_some other ≡ true) → is_some (option_or one other) ≡ true
either_there (Some x) other h = refl
either_there None other h = h refl

at_place : {A : Type 0} (xs : List A) (k : ℕ) → k < length xs → is_some (slice_get xs k) ≡ true
at_place [] k within = absurd (omega (arith, within))
at_place (x ∷ xs) zero within = refl
at_place (x ∷ xs) (suc k) within = at_place xs k (omega (arith, within))

has_rule : (t : TableView) (number : ℕ) → number < rule_count t → is_some (rule_with_number t number) ≡ true
has_rule t number within = elim (cases_lt number (length t.rules)) [
  | inl ranked ↦ either_there (option_map of_rule (slice_get t.rules number)) (own_definition t (number - length t.rules)) (λ none.
      let there : is_some (option_map of_rule (slice_get t.rules number)) ≡ true = same_test of_rule (slice_get t.rules number) ∙ at_place t.rules number ranked in
      absurd (let e : true ≡ false = sym there ∙ none in cc))
  | inr own ↦ either_there (option_map of_rule (slice_get t.rules number)) (own_definition t (number - length t.rules)) (λ none. own_there t (number - length t.rules) (omega (arith, within, own)))
]

-- what holds of each rule holds of what each rule of a table says
pub all_say : (P : List ℕ → Type 0) (t : TableView) (lines : List LineView) → ((x : ListedView) → P (said_rule t lines x)) → All (λ number. P (said (wording t lines) number)) (rule_numbers t)
all_say P t lines each k d within =
    let count = rule_count t in
    let inside : k < count = omega (arith, within, length-range_with_len 0 count) in
    let same : 0 + k ≡ k = omega arith in
    subst (λ n. P (said (wording t lines) n)) (sym (get_or-range_with_len 0 count k d inside ∙ same))
    (subst P (sym (get_or-map-range_with_len (rule_words t lines) 0 count k k [] inside same)) (found (rule_with_number t k) (has_rule t k inside)))
  where
    found : (rule : Option ListedView) → is_some rule ≡ true → P (option_map_or (said_rule t lines) rule [])
    found (Some x) is = each x
    found None is = absurd cc
