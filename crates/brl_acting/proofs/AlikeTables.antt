-- Two tables that give each character of an alphabet the same definition, and choose the same
-- cells, make the same of each text over the alphabet.
use Rattle.std.proofs.Common.{◌≡◌, ◌∙◌, ◌+◌, ◌++◌, ◌&&◌, ◌||◌, ℕ, zero, suc, Bool, true, false, List, [], ◌∷◌, Option, Some, None, ap, cond, drop, length, map, nat_eq, not, option_map, refl, sym, take}
use Rattle.std.specs.Cmp.{first_so, second_so}
use Rattle.std.specs.List.{list_all, position_from, starts_with}
use Rattle.std.specs.Option.{option_map_or}
use Rattle.std.specs.Prelude.{is_some}
use Rattle.std.proofs.lemmas.Iterator.Adapters.{position_from-zero}
use Rattle.brl_rules.specs.declared.class.Class.{Class}
use Rattle.brl_rules.specs.declared.context.Context.{Context}
use Rattle.brl_rules.specs.declared.rule.Info.{Info}
use Rattle.brl_rules.specs.declared.rule.Rule.{Rule}
use Rattle.brl_rules.specs.Choice.{Choice, by_rule, chosen, compared, first_fitting, fits, folds_of_capitals, matches, own}
use Rattle.brl_rules.specs.Indicators.{indicators, indicators_of}
use Rattle.brl_rules.specs.Places.{after_of, before_of, holds, none}
use Rattle.brl_rules.specs.Rest.{rest_from, translation_of_rest}
use Rattle.brl_rules.specs.TableView.{TableView, info_of}
use Rattle.brl_rules.specs.Text.{at_start, classes_at, classes_of, context_after, context_after_all, fold_of, has_word_capitals, is_capital, is_defined, is_in_caps_run, is_literary, is_mode}
use Rattle.brl_rules.specs.Translation.{translation}
use Rattle.brl_rules.proofs.Facts.{and-true}
use Rattle.brl_rules.proofs.PositionAndRest.{translation-rest}
use Rattle.brl_forward.specs.Faults.{first_unknown}
use Rattle.brl_acting.specs.Idle.{essence_of_info, essence_of_rule, is_over}
use Rattle.brl_acting.specs.Sets.{is_in}

-- ---- Parts of texts over an alphabet

pub all-take : (p : ℕ → Bool) (n : ℕ) (text : List ℕ) → list_all p text ≡ true → list_all p (take n text) ≡ true
all-take p zero text over = refl
all-take p (suc n) [] over = refl
all-take p (suc n) (c ∷ text) over =
    and-true (p c) (list_all p (take n text)) (first_so (p c) (list_all p text) over) (all-take p n text (second_so (p c) (list_all p text) over))

pub all-drop : (p : ℕ → Bool) (n : ℕ) (text : List ℕ) → list_all p text ≡ true → list_all p (drop n text) ≡ true
all-drop p zero text over = over
all-drop p (suc n) [] over = refl
all-drop p (suc n) (c ∷ text) over = all-drop p n text (second_so (p c) (list_all p text) over)

-- ---- Choices, but for their numbers

-- the characters and the cells of a choice
abbrev pub taken_of : Choice → ℕ × List ℕ
taken_of choice = (choice.taken, choice.cells)

pub same_pick : (b d : Bool) (x y z w : Choice) → b ≡ d → taken_of x ≡ taken_of z → taken_of y ≡ taken_of w → taken_of (cond b x y) ≡ taken_of (cond d z w)
same_pick true d x y z w is first other = first ∙ ap (λ b. taken_of (cond b z w)) is
same_pick false d x y z w is first other = other ∙ ap (λ b. taken_of (cond b z w)) is

-- ---- What is read of an info, but for its number and its line

through : {X : Type 0} (f : Info → X) (d : X) (o : Option Info) → ((info : Info) → f (essence_of_info info) ≡ f info)
    → option_map_or f (option_map essence_of_info o) d ≡ option_map_or f o d
through f d None same = refl
through f d (Some info) same = same info

is_some-through : (o : Option Info) → is_some (option_map essence_of_info o) ≡ is_some o
is_some-through None = refl
is_some-through (Some info) = refl

-- a table gives a character the same as another one
abbrev pub GivesSame : TableView → TableView → ℕ → Type 0
GivesSame t other c = option_map essence_of_info (info_of other c) ≡ option_map essence_of_info (info_of t c)

module _ (alphabet : List ℕ) (t other : TableView) (signs : other.signs ≡ t.signs) (infos : (c : ℕ) → is_in alphabet c ≡ true → GivesSame t other c) where
  of_info : {X : Type 0} (f : Info → X) (d : X) → ((info : Info) → f (essence_of_info info) ≡ f info) → (c : ℕ) → is_in alphabet c ≡ true
      → option_map_or f (info_of other c) d ≡ option_map_or f (info_of t c) d
  of_info f d same c within = sym (through f d (info_of other c) same) ∙ ap (λ o. option_map_or f o d) (infos c within) ∙ through f d (info_of t c) same

  same_classes : (c : ℕ) → is_in alphabet c ≡ true → classes_of other c ≡ classes_of t c
  same_classes c within = of_info (λ info. info.classes) none (λ info. refl) c within

  same_fold : (c : ℕ) → is_in alphabet c ≡ true → fold_of other c ≡ fold_of t c
  same_fold c within = of_info (λ info. info.fold) c (λ info. refl) c within

  same_literary : (c : ℕ) → is_in alphabet c ≡ true → is_literary other c ≡ is_literary t c
  same_literary c within = of_info (λ info. info.literary) false (λ info. refl) c within

  same_mode : (c : ℕ) → is_in alphabet c ≡ true → is_mode other c ≡ is_mode t c
  same_mode c within = of_info (λ info. info.mode) false (λ info. refl) c within

  same_defined : (c : ℕ) → is_in alphabet c ≡ true → is_defined other c ≡ is_defined t c
  same_defined c within = sym (is_some-through (info_of other c)) ∙ ap (λ (o : Option Info). is_some o) (infos c within) ∙ is_some-through (info_of t c)

  -- ---- Capitals, indicators, contexts

  same_word_capitals : has_word_capitals other ≡ has_word_capitals t
  same_word_capitals = ap (λ signs. has_word_capitals (record t { signs = signs })) signs

  same_classes_at : (rest : List ℕ) (i : ℕ) → is_over alphabet rest ≡ true → classes_at other rest i ≡ classes_at t rest i
  same_classes_at [] i over = refl
  same_classes_at (c ∷ rest) zero over = same_classes c (first_so (is_in alphabet c) (is_over alphabet rest) over)
  same_classes_at (c ∷ rest) (suc i) over = same_classes_at rest i (second_so (is_in alphabet c) (is_over alphabet rest) over)

  same_run : (before : Class) (rest : List ℕ) → is_over alphabet rest ≡ true → is_in_caps_run other before rest ≡ is_in_caps_run t before rest
  same_run before rest over = λ j.
      same_word_capitals j && is_capital (same_classes_at rest 0 over j) && (is_capital before || is_capital (same_classes_at rest 1 over j))

  same_indicators : (here : Context) (rest : List ℕ) → is_over alphabet rest ≡ true → indicators other here rest ≡ indicators t here rest
  same_indicators here [] over = refl
  same_indicators here (c ∷ rest) over =
      let new = is_in_caps_run other here.classes (c ∷ rest) in
      ap (λ run. option_map_or (indicators_of other here run) (info_of other c) []) (same_run here.classes (c ∷ rest) over)
      ∙ of_info (indicators_of other here (is_in_caps_run t here.classes (c ∷ rest))) [] (λ info. refl) c (first_so (is_in alphabet c) (is_over alphabet rest) over)
      ∙ ap (λ signs. option_map_or (indicators_of (record t { signs = signs }) here (is_in_caps_run t here.classes (c ∷ rest))) (info_of t c) []) signs

  same_context : (here : Context) (c : ℕ) → is_in alphabet c ≡ true → context_after other here c ≡ context_after t here c
  same_context here c within = λ j. record {
    classes = same_classes c within j;
    numeric = same_literary c within j || (same_mode c within j && here.numeric);
    run = same_word_capitals j && is_capital here.classes && is_capital (same_classes c within j);
  }

  same_contexts : (here : Context) (chars : List ℕ) → is_over alphabet chars ≡ true → context_after_all other here chars ≡ context_after_all t here chars
  same_contexts here [] over = refl
  same_contexts here (c ∷ chars) over =
      ap (λ after. context_after_all other after chars) (same_context here c (first_so (is_in alphabet c) (is_over alphabet chars) over))
      ∙ same_contexts (context_after t here c) chars (second_so (is_in alphabet c) (is_over alphabet chars) over)

  -- ---- Rules

  same_folds : (rest : List ℕ) → is_over alphabet rest ≡ true → folds_of_capitals other rest ≡ folds_of_capitals t rest
  same_folds [] over = refl
  same_folds (c ∷ rest) over =
      let within = first_so (is_in alphabet c) (is_over alphabet rest) over in
      let more = same_folds rest (second_so (is_in alphabet c) (is_over alphabet rest) over) in
      λ j. cond (is_capital (same_classes c within j)) (same_fold c within j ∷ more j) []

  same_compared : (run : Bool) (rest : List ℕ) → is_over alphabet rest ≡ true → compared other run rest ≡ compared t run rest
  same_compared run [] over = refl
  same_compared false (c ∷ rest) over = ap (λ fold. fold ∷ rest) (same_fold c (first_so (is_in alphabet c) (is_over alphabet rest) over))
  same_compared true (c ∷ rest) over =
      let fold = same_fold c (first_so (is_in alphabet c) (is_over alphabet rest) over) in
      let folds = same_folds rest (second_so (is_in alphabet c) (is_over alphabet rest) over) in
      λ j. fold j ∷ folds j

  same_matches : (run new : Bool) (rest chars : List ℕ) → is_over alphabet rest ≡ true → new ≡ run → matches other new rest chars ≡ matches t run rest chars
  same_matches run new rest [] over is = refl
  same_matches run new rest (first ∷ others) over is =
      ap (λ run. matches other run rest (first ∷ others)) is ∙ ap (λ xs. starts_with nat_eq xs (first ∷ others)) (same_compared run rest over)

  pub same_fits : (before : Class) (rest : List ℕ) (r : Rule) → is_over alphabet rest ≡ true → fits other before rest r ≡ fits t before rest r
  same_fits before rest r over =
      let match = same_matches (is_in_caps_run t before rest) (is_in_caps_run other before rest) rest r.chars over (same_run before rest over) in
      λ j. match j && holds (before_of r.place) before && holds (after_of r.place before) (same_classes_at rest (length r.chars) over j)

  pub same_own : (rest : List ℕ) → is_over alphabet rest ≡ true → taken_of (own other rest) ≡ taken_of (own t rest)
  same_own [] over = refl
  same_own (c ∷ rest) over =
      let cells = of_info (λ info. info.cells) [] (λ info. refl) c (first_so (is_in alphabet c) (is_over alphabet rest) over) in
      λ j. (1, cells j)

  -- the first of some rules that fits, and that of the same rules without the places of lines
  pub same_first : (before : Class) (rest : List ℕ) → is_over alphabet rest ≡ true → (rules : List Rule) (n m : ℕ)
      → taken_of (first_fitting other before rest n rules) ≡ taken_of (first_fitting t before rest m rules)
  same_first before rest over [] n m = same_own rest over
  same_first before rest over (r ∷ rules) n m =
      same_pick (fits other before rest r) (fits t before rest r) (by_rule n r) (first_fitting other before rest (n + 1) rules)
      (by_rule m r) (first_fitting t before rest (m + 1) rules) (same_fits before rest r over) refl (same_first before rest over rules (n + 1) (m + 1))

  pub same_first_of_essence : (before : Class) (rest : List ℕ) → is_over alphabet rest ≡ true → (rules : List Rule) (n m : ℕ)
      → taken_of (first_fitting other before rest n (map essence_of_rule rules)) ≡ taken_of (first_fitting t before rest m rules)
  same_first_of_essence before rest over [] n m = same_own rest over
  same_first_of_essence before rest over (r ∷ rules) n m =
      same_pick (fits other before rest (essence_of_rule r)) (fits t before rest r) (by_rule n (essence_of_rule r))
      (first_fitting other before rest (n + 1) (map essence_of_rule rules))
      (by_rule m r) (first_fitting t before rest (m + 1) rules) (same_fits before rest r over) refl (same_first_of_essence before rest over rules (n + 1) (m + 1))

  -- ---- Faults

  same_position : (n : ℕ) (text : List ℕ) → is_over alphabet text ≡ true
      → position_from (λ c. not (is_defined other c)) n text ≡ position_from (λ c. not (is_defined t c)) n text
  same_position n [] over = refl
  same_position n (c ∷ text) over =
      let defined = same_defined c (first_so (is_in alphabet c) (is_over alphabet text) over) in
      let more = same_position (n + 1) text (second_so (is_in alphabet c) (is_over alphabet text) over) in
      λ j. cond (not (defined j)) (Some n) (more j)

  pub same_fault : (text : List ℕ) → is_over alphabet text ≡ true → first_unknown other text ≡ first_unknown t text
  same_fault text over =
      position_from-zero (λ c. not (is_defined other c)) text ∙ same_position 0 text over ∙ sym (position_from-zero (λ c. not (is_defined t c)) text)

  -- ---- Translations

  module _ (choice : (before : Class) (rest : List ℕ) → is_over alphabet rest ≡ true → taken_of (chosen other before rest) ≡ taken_of (chosen t before rest)) where
    same_rest : (n : ℕ) (here : Context) (rest : List ℕ) → is_over alphabet rest ≡ true → rest_from other n here rest ≡ rest_from t n here rest
    same_rest zero here rest over = refl
    same_rest (suc n) here [] over = refl
    same_rest (suc n) here (c ∷ rest) over =
        let old = chosen t here.classes (c ∷ rest) in
        let new = chosen other here.classes (c ∷ rest) in
        let same = choice here.classes (c ∷ rest) over in
        let taken : new.taken ≡ old.taken = ap (λ pair. pair.0) same in
        let cells : new.cells ≡ old.cells = ap (λ pair. pair.1) same in
        let after : context_after_all other here (take new.taken (c ∷ rest)) ≡ context_after_all t here (take old.taken (c ∷ rest)) =
        same_contexts here (take new.taken (c ∷ rest)) (all-take (is_in alphabet) new.taken (c ∷ rest) over) ∙ ap (λ k. context_after_all t here (take k (c ∷ rest))) taken in
        let left : drop new.taken (c ∷ rest) ≡ drop old.taken (c ∷ rest) = ap (λ k. drop k (c ∷ rest)) taken in
        let signs = same_indicators here (c ∷ rest) over in
        let first : rest_from other n (context_after_all other here (take new.taken (c ∷ rest))) (drop new.taken (c ∷ rest))
        ≡ rest_from other n (context_after_all t here (take old.taken (c ∷ rest))) (drop old.taken (c ∷ rest)) =
        λ j. rest_from other n (after j) (left j) in
        let more = first ∙ same_rest n (context_after_all t here (take old.taken (c ∷ rest))) (drop old.taken (c ∷ rest)) (all-drop (is_in alphabet) old.taken (c ∷ rest) over) in
        λ j. signs j ++ cells j ++ more j

    pub same_translation : (text : List ℕ) → is_over alphabet text ≡ true → translation other text ≡ translation t text
    unfolding translation_of_rest
    same_translation text over = translation-rest other text ∙ same_rest (length text) at_start text over ∙ sym (translation-rest t text)
