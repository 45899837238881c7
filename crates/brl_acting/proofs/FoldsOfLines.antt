-- The table of lines folds capitals as the pairs that the lines give say.
use Rattle.std.proofs.Common.{◌≡◌, ◌∙◌, ◌⊎◌, ◌||◌, ◌&&◌, ◌++◌, ◌+◌, ℕ, Bool, true, false, List, [], ◌∷◌, Option, Some, None, Result, Ok, Err, ap, bytes_eq, codes, cond, filter, find, inl, inr, map, nat_eq, not, nat_lt, length, refl, subst, sym}
use Rattle.std.specs.List.{AllByRecursion}
use Rattle.std.specs.Map.{lookup}
use Rattle.std.specs.Option.{option_map_or, option_or}
use Rattle.std.proofs.lemmas.List.{map-append}
use Rattle.std.proofs.lemmas.List.Concat.{flat_map-append}
use Rattle.std.proofs.lemmas.List.Elements.{filter-append}
use Rattle.std.proofs.lemmas.List.Folds.{list_any-append}
use Rattle.std.proofs.lemmas.Slice.Eq.{bytes_eq-Decides}
use Rattle.brl_failure.specs.Failure.{◌>>=◌}
use Rattle.brl_lines.specs.Escapes.{characters_of}
use Rattle.brl_lines.specs.Tokens.{LineView, TokenView}
use Rattle.brl_lines.specs.declared.operand.CharsFault.{CharsFault}
use Rattle.brl_rules.specs.declared.class.Class.{Class}
use Rattle.brl_rules.specs.declared.place.Place.{Place}
use Rattle.brl_rules.specs.declared.rule.Info.{Info}
use Rattle.brl_rules.specs.declared.signs.Sign.{Sign}
use Rattle.brl_rules.specs.Places.{digit, lowercase_letter, uppercase_letter}
use Rattle.brl_rules.specs.Text.{fold_of}
use Rattle.brl_rules.proofs.Facts.{nat_eq-itself, or-true, same_number, some_is}
use Rattle.brl_table.specs.declared.item.Definition.{Definition}
use Rattle.brl_table.specs.declared.item.Item.{Item}
use Rattle.brl_table.specs.declared.item.Item.TheVariants.{Defines, DefinesBoth, Indicates, Lists, Nothing, Rules}
use Rattle.brl_table.specs.declared.item.NumericRole.{NumericRole}
use Rattle.brl_table.specs.declared.item.RuleHead.{RuleHead}
use Rattle.brl_table.specs.declared.opcode.Opcode.{Opcode}
use Rattle.brl_table.specs.declared.opcode.Opcode.TheVariants.{Display, Include, Indicator, Literary, Nofor, Noback, NumericList, Placed, Plain, Uplow}
use Rattle.brl_table.specs.declared.table_fault.TableFaultKind.TheVariants.{BadCharacters, TooMany}
use Rattle.brl_table.specs.Items.{Fault, by_opcode, cells_of, cells_of_both, character_of, defined, defined_both, definition, displayed, fault, head, left_include, indicated, listed, or_fault, rule, rule_cells_of, ruled, ruled_after, ruled_as, some_characters_of, the_two}
use Rattle.brl_table.specs.Opcodes.{character_opcodes, entry_of, opcode_of, other_opcodes, place_opcodes}
use Rattle.brl_table.specs.Reading.{Listed, defined_characters, defined_info, file_number, definition_in, definitions, files_of, first_uplow, item_in, items_of, listed_characters, with_numbers, ok_of, table_of}
use Rattle.brl_acting.specs.Capitals.{bases_in, bases_of, pair_of, seconds}
use Rattle.brl_acting.specs.Idle.{HasFolds, kept_lines}
use Rattle.brl_acting.specs.Sets.{is_in}
use Rattle.brl_acting.specs.Words.{TableLineView, chars_if, parts_by, parts_of}

-- ---- The opcode of a line with capitals

named_uplow : (entries : List (List ℕ × Opcode)) → AllByRecursion (λ entry. entry.1 ≡ Uplow → entry.0 ≡ codes "uplow") entries → (word : List ℕ)
    → entry_of entries word ≡ Some Uplow → word ≡ codes "uplow"
named_uplow [] all word is = cc
named_uplow (entry ∷ entries) all word is = by (bytes_eq word entry.0) refl is (named_uplow entries all.1 word)
  where
    by : (b : Bool) → bytes_eq word entry.0 ≡ b → cond b (Some entry.1) (entry_of entries word) ≡ Some Uplow → (entry_of entries word ≡ Some Uplow → word ≡ codes "uplow")
        → word ≡ codes "uplow"
    by true e is more = (bytes_eq-Decides word entry.0).0 e ∙ all.0 cc
    by false e is more = more is

one_or_other : (x y : Option Opcode) → option_or x y ≡ Some Uplow → (x ≡ Some Uplow) ⊎ (y ≡ Some Uplow)
one_or_other None y is = inr is
one_or_other (Some o) y is = inl is

uplow_word : (word : List ℕ) → opcode_of word ≡ Some Uplow → word ≡ codes "uplow"
uplow_word word is = by (one_or_other (entry_of character_opcodes word) (option_or (entry_of place_opcodes word) (entry_of other_opcodes word)) is)
  where
    others : (entry_of place_opcodes word ≡ Some Uplow) ⊎ (entry_of other_opcodes word ≡ Some Uplow) → word ≡ codes "uplow"
    others (inl is) = named_uplow place_opcodes ((λ e. cc), ((λ e. cc), ((λ e. cc), ((λ e. cc), ((λ e. cc), ((λ e. cc), ((λ e. cc), ((λ e. cc), ((λ e. cc), ((λ e. cc), ((λ e. cc), ((λ e. cc), ((λ e. cc), tt))))))))))))) word is
    others (inr is) = named_uplow other_opcodes ((λ e. cc), ((λ e. cc), ((λ e. cc), ((λ e. cc), ((λ e. cc), ((λ e. cc), ((λ e. cc), ((λ e. cc), ((λ e. cc), ((λ e. cc), ((λ e. cc), ((λ e. cc), tt)))))))))))) word is

    by : (entry_of character_opcodes word ≡ Some Uplow) ⊎ (option_or (entry_of place_opcodes word) (entry_of other_opcodes word) ≡ Some Uplow) → word ≡ codes "uplow"
    by (inl is) = named_uplow character_opcodes ((λ e. cc), ((λ e. cc), ((λ e. cc), ((λ e. cc), ((λ e. cc), ((λ e. cc), ((λ e. cc), ((λ e. cc), ((λ e. cc), ((λ e. refl), tt)))))))))) word is
    by (inr is) = others (one_or_other (entry_of place_opcodes word) (entry_of other_opcodes word) is)

abbrev couple : ℕ → ℕ → ℕ × ℕ
couple x y = (x, y)

-- ---- What a line defines

-- a definition by which a character is folded to another one
abbrev folds : ℕ → Definition → Bool
folds c d = nat_eq c d.character && not (nat_eq c d.fold)

-- none of the definitions of an item folds the character
abbrev FoldsNone : ℕ → Result Item Fault → Type 0
FoldsNone c got = (item : Item) → got ≡ Ok item → find (folds c) (definition_in item) ≡ None

both_ways : (b : Bool) → (b && not b) ≡ false
both_ways true = refl
both_ways false = refl

defines_one : (c : ℕ) (d : Definition) → d.fold ≡ d.character → find (folds c) (definition_in (Defines d)) ≡ None
defines_one c d own =
    ap (λ b. cond b (Some d) None) (ap (λ f. nat_eq c d.character && not (nat_eq c f)) own ∙ both_ways (nat_eq c d.character))

module _ (c : ℕ) where
  of_defined : (classes : Class) (literary : Bool) (file line : ℕ) (opcode : List ℕ) (operands : List TokenView) → FoldsNone c (defined classes literary file line opcode operands)
  of_defined classes literary file line opcode [] item is = cc
  of_defined classes literary file line opcode (first ∷ []) item is = cc
  of_defined classes literary file line opcode (first ∷ second ∷ comment) item is = by (character_of first.text) (cells_of second.text) is
    where
      by : (found : Result ℕ Fault) (cells : Result (List ℕ) Fault)
          → (found >>= (λ ch. cells >>= (λ given. Ok (Defines (definition classes literary file line ch ch given))))) ≡ Ok item
          → find (folds c) (definition_in item) ≡ None
      by (Err wrong) cells is = cc
      by (Ok ch) (Err wrong) is = cc
      by (Ok ch) (Ok given) is =
          let d = definition classes literary file line ch ch given in
          let same : Defines d ≡ item = cc in
          ap (λ it. find (folds c) (definition_in it)) (sym same) ∙ defines_one c d refl

  of_displayed : (opcode : List ℕ) (operands : List TokenView) → FoldsNone c (displayed opcode operands)
  of_displayed opcode [] item is = cc
  of_displayed opcode (first ∷ []) item is = cc
  of_displayed opcode (first ∷ second ∷ comment) item is = by (character_of first.text) (cells_of second.text) is
    where
      by : (found : Result ℕ Fault) (cells : Result (List ℕ) Fault) → (found >>= (λ ch. cells >>= (λ given. Ok Nothing))) ≡ Ok item
          → find (folds c) (definition_in item) ≡ None
      by (Err wrong) cells is = cc
      by (Ok ch) (Err wrong) is = cc
      by (Ok ch) (Ok given) is = let same : Nothing ≡ item = cc in ap (λ it. find (folds c) (definition_in it)) (sym same)

  of_indicated : (sign : Sign) (opcode : List ℕ) (operands : List TokenView) → FoldsNone c (indicated sign opcode operands)
  of_indicated sign opcode [] item is = cc
  of_indicated sign opcode (first ∷ comment) item is = by (cells_of first.text) is
    where
      by : (cells : Result (List ℕ) Fault) → (cells >>= (λ given. Ok (Indicates sign given))) ≡ Ok item → find (folds c) (definition_in item) ≡ None
      by (Err wrong) is = cc
      by (Ok given) is = let same : Indicates sign given ≡ item = cc in ap (λ it. find (folds c) (definition_in it)) (sym same)

  of_listed : (role : NumericRole) (opcode : List ℕ) (operands : List TokenView) → FoldsNone c (listed role opcode operands)
  of_listed role opcode [] item is = cc
  of_listed role opcode (first ∷ comment) item is = by (some_characters_of first.text) is
    where
      by : (chars : Result (List ℕ) Fault) → (chars >>= (λ found. Ok (Lists (record { role = role; chars = found })))) ≡ Ok item → find (folds c) (definition_in item) ≡ None
      by (Err wrong) is = cc
      by (Ok found) is = let same : Lists (record { role = role; chars = found }) ≡ item = cc in ap (λ it. find (folds c) (definition_in it)) (sym same)

  of_rule : (place : Place) (head : RuleHead) (opcode : List ℕ) (chars : List ℕ) (cells : Option (List ℕ)) → FoldsNone c (rule place head opcode chars cells)
  of_rule place head opcode chars cells item is = by (nat_lt 32 (length chars)) is
    where
      by : (b : Bool) → cond b (Err (fault TooMany opcode)) (Ok (Rules (record { place = place; chars = chars; cells = cells; head = head }))) ≡ Ok item
          → find (folds c) (definition_in item) ≡ None
      by true is = cc
      by false is = let same : Rules (record { place = place; chars = chars; cells = cells; head = head }) ≡ item = cc in ap (λ it. find (folds c) (definition_in it)) (sym same)

  of_ruled : (place : Place) (head : RuleHead) (opcode : List ℕ) (operands : List TokenView) → FoldsNone c (ruled place head opcode operands)
  of_ruled place head opcode [] item is = cc
  of_ruled place head opcode (first ∷ []) item is = cc
  of_ruled place head opcode (first ∷ second ∷ comment) item is = by (some_characters_of first.text) (rule_cells_of second.text) is
    where
      by : (chars : Result (List ℕ) Fault) (cells : Result (Option (List ℕ)) Fault)
          → (chars >>= (λ found. cells >>= (λ given. rule place head opcode found given))) ≡ Ok item → find (folds c) (definition_in item) ≡ None
      by (Err wrong) cells is = cc
      by (Ok found) (Err wrong) is = cc
      by (Ok found) (Ok given) is = of_rule place head opcode found given item is

  of_ruled_as : (head : RuleHead) (opcode : List ℕ) (operands : List TokenView) (kind : Option Opcode) → FoldsNone c (ruled_as head opcode operands kind)
  of_ruled_as head opcode operands (Some (Placed place)) item is = of_ruled place head opcode operands item is
  of_ruled_as head opcode operands None item is = cc
  of_ruled_as head opcode operands (Some (Plain classes)) item is = cc
  of_ruled_as head opcode operands (Some Literary) item is = cc
  of_ruled_as head opcode operands (Some Uplow) item is = cc
  of_ruled_as head opcode operands (Some Noback) item is = cc
  of_ruled_as head opcode operands (Some Nofor) item is = cc
  of_ruled_as head opcode operands (Some Display) item is = cc
  of_ruled_as head opcode operands (Some (Indicator sign)) item is = cc
  of_ruled_as head opcode operands (Some (NumericList role)) item is = cc
  of_ruled_as head opcode operands (Some Include) item is = cc

  of_ruled_after : (head : RuleHead) (prefix : List ℕ) (operands : List TokenView) → FoldsNone c (ruled_after head prefix operands)
  of_ruled_after head prefix [] item is = cc
  of_ruled_after head prefix (next ∷ operands) item is = of_ruled_as head next.text operands (opcode_of next.text) item is

  of_included : (opcode : List ℕ) (operands : List TokenView) → FoldsNone c (left_include opcode operands)
  of_included opcode [] item is = cc
  of_included opcode (name ∷ comment) item is = cc

  -- ---- A line with a capital and its small letter

  -- what these words pair has the small letter to which an item folds the character
  abbrev Paired : List ℕ → Item → Type 0
  Paired word item = (d : Definition) → find (folds c) (definition_in item) ≡ Some d → is_in (seconds (pair_of (chars_if word (characters_of word))) (nat_eq c)) d.fold ≡ true

  of_pair : (file line x y : ℕ) (upper lower : List ℕ) (d : Definition)
      → find (folds c) (definition_in (DefinesBoth (definition uppercase_letter false file line y x upper) (definition lowercase_letter false file line y y lower))) ≡ Some d
      → is_in (seconds ((x, y) ∷ []) (nat_eq c)) d.fold ≡ true
  of_pair file line x y upper lower d is = by (nat_eq c x) (nat_eq c y) is
    where
      by : (b e : Bool)
          → cond (b && not e) (Some (definition uppercase_letter false file line y x upper)) (cond (e && not e) (Some (definition lowercase_letter false file line y y lower)) None) ≡ Some d
          → is_in (map (λ (pair : ℕ × ℕ). pair.1) (cond b ((x, y) ∷ []) [])) d.fold ≡ true
      by true false is =
          let same : y ≡ d.fold = ap (λ (d : Definition). d.fold) (some_is (definition uppercase_letter false file line y x upper) d is) in
          ap (λ b. b || false) (ap (nat_eq d.fold) same ∙ nat_eq-itself d.fold)
      by true true is = cc
      by false true is = cc
      by false false is = cc

  of_both : (file line : ℕ) (opcode : List ℕ) (first second : TokenView) (comment : List TokenView) (item : Item)
      → defined_both file line opcode (first ∷ second ∷ comment) ≡ Ok item → Paired first.text item
  of_both file line opcode first second comment item is d found = by (characters_of first.text) (cells_of_both second.text) is
    where
      by : (spelled : Result (List ℕ) CharsFault) (cells : Result (List ℕ × List ℕ) Fault)
          → ((or_fault BadCharacters first.text spelled >>= the_two first.text)
          >>= (λ cs. cells >>= (λ given. Ok (DefinesBoth (definition uppercase_letter false file line cs.1 cs.0 given.0) (definition lowercase_letter false file line cs.1 cs.1 given.1))))) ≡ Ok item
          → is_in (seconds (pair_of (chars_if first.text spelled)) (nat_eq c)) d.fold ≡ true
      by (Err wrong) cells is = cc
      by (Ok []) cells is = cc
      by (Ok (x ∷ [])) cells is = cc
      by (Ok (x ∷ y ∷ z ∷ more)) cells is = cc
      by (Ok (x ∷ y ∷ [])) cells is = two (nat_eq x y) cells is
        where
          two : (b : Bool) (cells : Result (List ℕ × List ℕ) Fault)
              → (cond b (Err (fault BadCharacters first.text)) (Ok (couple x y))
              >>= (λ cs. cells >>= (λ given. Ok (DefinesBoth (definition uppercase_letter false file line cs.1 cs.0 given.0) (definition lowercase_letter false file line cs.1 cs.1 given.1))))) ≡ Ok item
              → is_in (seconds ((x, y) ∷ []) (nat_eq c)) d.fold ≡ true
          two true cells is = cc
          two false (Err wrong) is = cc
          two false (Ok given) is =
              let same : DefinesBoth (definition uppercase_letter false file line y x given.0) (definition lowercase_letter false file line y y given.1) ≡ item = cc in
              of_pair file line x y given.0 given.1 d (ap (λ it. find (folds c) (definition_in it)) same ∙ found)

  -- ---- Any line

  -- the pairs of a line by its words
  abbrev pairs_of : Bool → Bool → List ℕ → List TokenView → List (ℕ × ℕ)
  pairs_of kept continued word operands = bases_in (parts_by kept continued (word ∷ map (λ (token : TokenView). token.text) operands))

  of_none : (x : Option Definition) (d : Definition) (P : Type 0) → x ≡ None → x ≡ Some d → P
  of_none x d P none some = absurd (let e : None ≡ Some d = sym none ∙ some in cc)

  of_line : (kept continued : Bool) (file line : ℕ) (word : List ℕ) (operands : List TokenView) (kind : Option Opcode) → opcode_of word ≡ kind → (item : Item)
      → by_opcode file line word operands kind ≡ Ok item → (d : Definition) → find (folds c) (definition_in item) ≡ Some d
      → is_in (seconds (pairs_of kept continued word operands) (nat_eq c)) d.fold ≡ true
  of_line kept continued file line word operands None kind item is d found = cc
  of_line kept continued file line word operands (Some (Plain classes)) kind item is d found = of_none (find (folds c) (definition_in item)) d _ (of_defined classes false file line word operands item is) found
  of_line kept continued file line word operands (Some Literary) kind item is d found = of_none (find (folds c) (definition_in item)) d _ (of_defined digit true file line word operands item is) found
  of_line kept continued file line word operands (Some Display) kind item is d found = of_none (find (folds c) (definition_in item)) d _ (of_displayed word operands item is) found
  of_line kept continued file line word operands (Some (Placed place)) kind item is d found = of_none (find (folds c) (definition_in item)) d _ (of_ruled place (head true false file line) word operands item is) found
  of_line kept continued file line word operands (Some Noback) kind item is d found = of_none (find (folds c) (definition_in item)) d _ (of_ruled_after (head true true file line) word operands item is) found
  of_line kept continued file line word operands (Some Nofor) kind item is d found = of_none (find (folds c) (definition_in item)) d _ (of_ruled_after (head false true file line) word operands item is) found
  of_line kept continued file line word operands (Some (Indicator sign)) kind item is d found = of_none (find (folds c) (definition_in item)) d _ (of_indicated sign word operands item is) found
  of_line kept continued file line word operands (Some (NumericList role)) kind item is d found = of_none (find (folds c) (definition_in item)) d _ (of_listed role word operands item is) found
  of_line kept continued file line word operands (Some Include) kind item is d found = of_none (find (folds c) (definition_in item)) d _ (of_included word operands item is) found
  of_line kept continued file line word [] (Some Uplow) kind item is d found = cc
  of_line kept continued file line word (first ∷ []) (Some Uplow) kind item is d found = cc
  of_line kept continued file line word (first ∷ second ∷ comment) (Some Uplow) kind item is d found =
      subst (λ (w : List ℕ). is_in (seconds (pairs_of kept continued w (first ∷ second ∷ comment)) (nat_eq c)) d.fold ≡ true) (sym (uplow_word word kind))
      (of_both file line word first second comment item is d found)

  -- ---- All lines

  find-append : (xs ys : List Definition) (d : Definition) → find (folds c) (xs ++ ys) ≡ Some d → (find (folds c) xs ≡ Some d) ⊎ (find (folds c) ys ≡ Some d)
  find-append [] ys d is = inr is
  find-append (x ∷ xs) ys d is = by (folds c x) is (find-append xs ys d)
    where
      by : (b : Bool) → cond b (Some x) (find (folds c) (xs ++ ys)) ≡ Some d → (find (folds c) (xs ++ ys) ≡ Some d → (find (folds c) xs ≡ Some d) ⊎ (find (folds c) ys ≡ Some d))
          → (cond b (Some x) (find (folds c) xs) ≡ Some d) ⊎ (find (folds c) ys ≡ Some d)
      by true is more = inl is
      by false is more = more is

  in_seconds : (xs ys : List (ℕ × ℕ)) (f : ℕ) → is_in (seconds (xs ++ ys) (nat_eq c)) f ≡ (is_in (seconds xs (nat_eq c)) f || is_in (seconds ys (nat_eq c)) f)
  in_seconds xs ys f =
      let test = λ (pair : ℕ × ℕ). nat_eq c pair.0 in
      let second = λ (pair : ℕ × ℕ). pair.1 in
      ap (λ (pairs : List (ℕ × ℕ)). is_in (map second pairs) f) (filter-append test xs ys)
      ∙ ap (λ (chars : List ℕ). is_in chars f) (map-append second (filter test xs) (filter test ys))
      ∙ list_any-append (nat_eq f) (map second (filter test xs)) (map second (filter test ys))

  of_lines : (files : List (List ℕ)) (lines : List TableLineView) (d : Definition) → find (folds c) (definitions (items_of files (kept_lines lines))) ≡ Some d
      → is_in (seconds (bases_of (map parts_of lines)) (nat_eq c)) d.fold ≡ true
  of_lines files [] d found = cc
  of_lines files (line ∷ lines) d found =
      in_seconds (bases_in (parts_of line)) (bases_of (map parts_of lines)) d.fold ∙ by line.kept found (of_lines files lines d)
    where
      rest : List LineView
      rest = kept_lines lines

      later : is_in (seconds (bases_of (map parts_of lines)) (nat_eq c)) d.fold ≡ true
          → (is_in (seconds (bases_in (parts_of line)) (nat_eq c)) d.fold || is_in (seconds (bases_of (map parts_of lines)) (nat_eq c)) d.fold) ≡ true
      later is = ap (λ b. is_in (seconds (bases_in (parts_of line)) (nat_eq c)) d.fold || b) is ∙ or-true (is_in (seconds (bases_in (parts_of line)) (nat_eq c)) d.fold)

      here : (got : Result Item Fault) → item_in files line.line ≡ got → find (folds c) (definitions (ok_of got)) ≡ Some d
          → is_in (seconds (bases_in (parts_of line)) (nat_eq c)) d.fold ≡ true
      here (Err wrong) is found = cc
      here (Ok item) is found = one (find-append (definition_in item) [] d found)
        where
          one : (find (folds c) (definition_in item) ≡ Some d) ⊎ (find (folds c) [] ≡ Some d) → is_in (seconds (bases_in (parts_of line)) (nat_eq c)) d.fold ≡ true
          one (inl found) =
              of_line line.kept line.continued (file_number files line.line.file) line.line.line line.line.opcode.text line.line.operands (opcode_of line.line.opcode.text) refl item is d found
          one (inr none) = cc

      by : (kept : Bool) → find (folds c) (definitions (items_of files (map (λ (l : TableLineView). l.line) (cond kept (line ∷ filter (λ (l : TableLineView). l.kept) lines) (filter (λ (l : TableLineView). l.kept) lines))))) ≡ Some d
          → (find (folds c) (definitions (items_of files rest)) ≡ Some d → is_in (seconds (bases_of (map parts_of lines)) (nat_eq c)) d.fold ≡ true)
          → (is_in (seconds (bases_in (parts_of line)) (nat_eq c)) d.fold || is_in (seconds (bases_of (map parts_of lines)) (nat_eq c)) d.fold) ≡ true
      by false found more = later (more found)
      by true found more =
          let both = ap (find (folds c)) (sym (flat_map-append definition_in (ok_of (item_in files line.line)) (items_of files rest))) ∙ found in
          split (find-append (definitions (ok_of (item_in files line.line))) (definitions (items_of files rest)) d both)
        where
          split : (find (folds c) (definitions (ok_of (item_in files line.line))) ≡ Some d) ⊎ (find (folds c) (definitions (items_of files rest)) ≡ Some d)
              → (is_in (seconds (bases_in (parts_of line)) (nat_eq c)) d.fold || is_in (seconds (bases_of (map parts_of lines)) (nat_eq c)) d.fold) ≡ true
          split (inl found) = ap (λ b. b || is_in (seconds (bases_of (map parts_of lines)) (nat_eq c)) d.fold) (here (item_in files line.line) refl found)
          split (inr found) = later (more found)

  -- ---- The table

  fold_found : (defined : List Definition) (listed : Listed) (n : ℕ) (chars : List ℕ)
      → (option_map_or (λ (info : Info). info.fold) (lookup (nat_eq c) (with_numbers (defined_info defined listed) n chars)) c ≡ c)
      ⊎ (option_map_or (λ (info : Info). info.fold) (lookup (nat_eq c) (with_numbers (defined_info defined listed) n chars)) c ≡ option_map_or (λ (d : Definition). d.fold) (first_uplow defined c) c)
  fold_found defined listed n [] = inl refl
  fold_found defined listed n (x ∷ chars) = by (nat_eq c x) refl (fold_found defined listed (n + 1) chars)
    where
      info : Info
      info = defined_info defined listed n x

      others : Option Info
      others = lookup (nat_eq c) (with_numbers (defined_info defined listed) (n + 1) chars)

      by : (b : Bool) → nat_eq c x ≡ b
          → (option_map_or (λ (info : Info). info.fold) others c ≡ c) ⊎ (option_map_or (λ (info : Info). info.fold) others c ≡ option_map_or (λ (d : Definition). d.fold) (first_uplow defined c) c)
          → (option_map_or (λ (info : Info). info.fold) (cond b (Some info) others) c ≡ c)
          ⊎ (option_map_or (λ (info : Info). info.fold) (cond b (Some info) others) c ≡ option_map_or (λ (d : Definition). d.fold) (first_uplow defined c) c)
      by true e more = inr (ap (λ x. option_map_or (λ (d : Definition). d.fold) (first_uplow defined x) x) (sym (same_number c x e)))
      by false e more = more

pub folds_of_lines : (lines : List TableLineView) → HasFolds (bases_of (map parts_of lines)) (table_of (kept_lines lines))
folds_of_lines lines c = by (fold_found c defined listed 0 (defined_characters defined))
  where
    files : List (List ℕ)
    files = files_of (kept_lines lines)

    defined : List Definition
    defined = definitions (items_of files (kept_lines lines))

    listed : Listed
    listed = listed_characters (items_of files (kept_lines lines))

    folded : ℕ
    folded = fold_of (table_of (kept_lines lines)) c

    paired : ℕ → Type 0
    paired f = is_in (seconds (bases_of (map parts_of lines)) (nat_eq c)) f ≡ true

    found : (first : Option Definition) → first_uplow defined c ≡ first → folded ≡ option_map_or (λ (d : Definition). d.fold) first c → (folded ≡ c) ⊎ paired folded
    found None is same = inl same
    found (Some d) is same = inr (ap (is_in (seconds (bases_of (map parts_of lines)) (nat_eq c))) same ∙ of_lines c files lines d is)

    by : (folded ≡ c) ⊎ (folded ≡ option_map_or (λ (d : Definition). d.fold) (first_uplow defined c) c) → (folded ≡ c) ⊎ paired folded
    by (inl own) = inl own
    by (inr same) = found (first_uplow defined c) refl same
