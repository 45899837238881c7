-- The number of characters with the definitions of one more item.
use Rattle.std.proofs.Common.{ℕ, ◌+◌, ◌≡◌, Bool, true, false, ◌||◌, cond, List, [], ◌∷◌, ◌++◌, length, nat_eq, refl, arith, sym, ap, ◌∙◌, append_assoc, append-nil, is_some, eq-eqb}
use Rattle.std.specs.List.{list_any}
use Rattle.std.specs.Map.{lookup}
use Rattle.std.proofs.lemmas.Bool.Decides.{nat_tests}
use Rattle.std.proofs.lemmas.List.Folds.{list_any-append}
use Rattle.brl_table.specs.declared.characters.Characters.{Characters}
use Rattle.brl_table.specs.declared.item.Definition.{Definition}
use Rattle.brl_table.specs.declared.item.Item.{Item}
use Rattle.brl_table.specs.declared.item.Item.TheVariants.{Defines, DefinesBoth, Rules, Indicates, Lists, Nothing}
use Rattle.brl_table.specs.Building.{CharactersRepresent, is_known, none_listed, over}
use Rattle.brl_table.specs.Reading.{defined_characters, definition_in, insert_new}
use Rattle.brl_table.proofs.DefinitionSteps.{characters-more, count-entries, known-found, known-listed}
use Rattle.brl_table.proofs.NumberedEntries.{there-some}
use Rattle.brl_rules.specs.Text.{is_defined}

pub length-insert_new : (xs : List ℕ) (c : ℕ) → length (insert_new nat_eq xs c) ≡ length xs + cond (list_any (nat_eq c) xs) 0 1
length-insert_new [] c = refl
length-insert_new (x ∷ xs) c = cases (nat_eq c x) (length-insert_new xs c)
  where
    cases : (b : Bool) → length (insert_new nat_eq xs c) ≡ length xs + cond (list_any (nat_eq c) xs) 0 1
        → length (cond b (x ∷ xs) (x ∷ insert_new nat_eq xs c)) ≡ length (x ∷ xs) + cond (b || list_any (nat_eq c) xs) 0 1
    cases true h = omega arith
    cases false h = omega (arith, h)

-- one more character, unless it is known
pub count-more : (defined : List Definition) (d : Definition) → length (defined_characters (defined ++ d ∷ [])) ≡ length (defined_characters defined) + cond (is_known defined d.character) 0 1
count-more defined d =
    ap length (characters-more defined d) ∙ length-insert_new (defined_characters defined) d.character
    ∙ ap (λ b. length (defined_characters defined) + cond b 0 1) (known-listed defined d.character)

known-more : (defined : List Definition) (d : Definition) (c : ℕ) → is_known (defined ++ d ∷ []) c ≡ is_known defined c || (nat_eq c d.character || false)
known-more defined d c = list_any-append (λ e. nat_eq c e.character) defined (d ∷ [])

or-true : (a : Bool) → a || (true || false) ≡ true
or-true true = refl
or-true false = refl

or-false : (a : Bool) → a || (false || false) ≡ a
or-false true = refl
or-false false = refl

not_same : (m n : ℕ) → (m ≡ n → ⊥) → nat_eq n m ≡ false
not_same m n apart = grind (arith, nat_tests)

no-definition : (item : Item) → ((d : Definition) → item ≡ Defines d → ⊥) → ((upper lower : Definition) → item ≡ DefinesBoth upper lower → ⊥) → definition_in item ≡ []
no-definition (Defines d) not_one not_two = absurd (not_one d refl)
no-definition (DefinesBoth upper lower) not_one not_two = absurd (not_two upper lower refl)
no-definition (Rules r) not_one not_two = refl
no-definition (Indicates sign cells) not_one not_two = refl
no-definition (Lists l) not_one not_two = refl
no-definition Nothing not_one not_two = refl

module _ (defined : List Definition) (upper lower : Definition) where
  count-two : length (defined_characters (defined ++ upper ∷ lower ∷ []))
      ≡ length (defined_characters defined) + cond (is_known defined upper.character) 0 1 + cond (is_known (defined ++ upper ∷ []) lower.character) 0 1
  count-two =
      ap (λ ds. length (defined_characters ds)) (sym (append_assoc defined (upper ∷ []) (lower ∷ [])))
      ∙ count-more (defined ++ upper ∷ []) lower ∙ ap (λ n. n + cond (is_known (defined ++ upper ∷ []) lower.character) 0 1) (count-more defined upper)

  -- two definitions of one character
  pub count-same : upper.character ≡ lower.character → length (defined_characters (defined ++ upper ∷ lower ∷ [])) ≡ length (defined_characters defined) + cond (is_known defined upper.character) 0 1
  count-same same =
      let known : is_known (defined ++ upper ∷ []) lower.character ≡ true =
      known-more defined upper lower.character ∙ ap (λ b. is_known defined lower.character || (b || false)) (eq-eqb lower.character upper.character (sym same)) ∙ or-true (is_known defined lower.character) in
      count-two ∙ ap (λ b. length (defined_characters defined) + cond (is_known defined upper.character) 0 1 + cond b 0 1) known ∙ omega arith

  -- definitions of two characters
  pub count-both : nat_eq lower.character upper.character ≡ false
      → length (defined_characters (defined ++ upper ∷ lower ∷ [])) ≡ length (defined_characters defined) + cond (is_known defined upper.character) 0 1 + cond (is_known defined lower.character) 0 1
  count-both apart =
      let known : is_known (defined ++ upper ∷ []) lower.character ≡ is_known defined lower.character =
      known-more defined upper lower.character ∙ ap (λ b. is_known defined lower.character || (b || false)) apart ∙ or-false (is_known defined lower.character) in
      count-two ∙ ap (λ b. length (defined_characters defined) + cond (is_known defined upper.character) 0 1 + cond b 0 1) known

module _ (defined : List Definition) (characters : Characters) (represents : CharactersRepresent defined characters) where
  -- how many characters there are
  pub count-of : length characters.infos.entries ≡ length (defined_characters defined)
  count-of = ap length represents.entries_are ∙ count-entries defined none_listed

  -- whether a character is known
  known-by : (c : ℕ) → is_defined (over characters.infos.entries) c ≡ is_known defined c
  known-by c = ap (λ es. is_some (lookup (nat_eq c) es)) represents.entries_are ∙ there-some (lookup (nat_eq c) _) ∙ known-found defined none_listed c

  new_count : (c new : ℕ) → new ≡ cond (is_defined (over characters.infos.entries) c) 0 1 → new ≡ cond (is_known defined c) 0 1
  new_count c new is = is ∙ ap (λ b. cond b 0 1) (known-by c)

  -- the number of characters with those of one item
  module _ (count : ℕ) (counted : count ≡ length characters.infos.entries) where
    pub count-one : (d : Definition) (new : ℕ) → new ≡ cond (is_defined (over characters.infos.entries) d.character) 0 1 → count + new ≡ length (defined_characters (defined ++ d ∷ []))
    count-one d new is =
        let e : new ≡ cond (is_known defined d.character) 0 1 = new_count d.character _ is in
        omega (arith, counted, count-of, e, count-more defined d)

    pub count-once : (upper lower : Definition) (new : ℕ) → upper.character ≡ lower.character → new ≡ cond (is_defined (over characters.infos.entries) upper.character) 0 1
        → count + new ≡ length (defined_characters (defined ++ upper ∷ lower ∷ []))
    count-once upper lower new same is =
        let e : new ≡ cond (is_known defined upper.character) 0 1 = new_count upper.character _ is in
        omega (arith, counted, count-of, e, count-same defined upper lower same)

    pub count-twice : (upper lower : Definition) (first second : ℕ) → (upper.character ≡ lower.character → ⊥)
        → first ≡ cond (is_defined (over characters.infos.entries) upper.character) 0 1 → second ≡ cond (is_defined (over characters.infos.entries) lower.character) 0 1
        → count + first + second ≡ length (defined_characters (defined ++ upper ∷ lower ∷ []))
    count-twice upper lower first second apart is more =
        let e : first ≡ cond (is_known defined upper.character) 0 1 = new_count upper.character _ is in
        let f : second ≡ cond (is_known defined lower.character) 0 1 = new_count lower.character _ more in
        omega (arith, counted, count-of, e, f, count-both defined upper lower (not_same upper.character lower.character apart))

    pub count-none : (item : Item) → ((d : Definition) → item ≡ Defines d → ⊥) → ((upper lower : Definition) → item ≡ DefinesBoth upper lower → ⊥)
        → count ≡ length (defined_characters (defined ++ definition_in item))
    count-none item not_one not_two =
        counted ∙ count-of ∙ ap (λ ds. length (defined_characters ds)) (sym (ap (λ ds. defined ++ ds) (no-definition item not_one not_two) ∙ append-nil defined))
