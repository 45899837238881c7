-- The limits of items hold for their definitions and their rules.
use Rattle.std.proofs.Common.{ℕ, ◌*◌, ◌≤◌, ◌≡◌, true, ◌||◌, List, [], ◌∷◌, ◌++◌, length, map, nat_eq, refl, arith, ap, ◌∙◌, subst, append_assoc, Option, Some, None, length-append, All, IfSome, is_some, unwrap_or, flat_map, eq-eqb}
use Rattle.std.specs.Cmp.{first_so, second_so}
use Rattle.std.specs.Map.{lookup}
use Rattle.std.proofs.lemmas.List.{length-map}
use Rattle.std.proofs.lemmas.List.Elements.{All-nil, All-cons, All-head, All-tail, All-append, All-weaker}
use Rattle.std.proofs.lemmas.List.Folds.{list_any-append}
use Rattle.std.proofs.lemmas.Map.Entries.{place_from_lookup}
use Rattle.std.proofs.lemmas.Option.{get_or_from_slice_get, slice_get_within}
use Rattle.brl_table.specs.declared.item.Definition.{Definition}
use Rattle.brl_table.specs.declared.item.Item.{Item}
use Rattle.brl_table.specs.declared.item.Item.TheVariants.{Defines, DefinesBoth, Rules, Indicates, Lists, Nothing}
use Rattle.brl_table.specs.declared.item.RuleLine.{RuleLine}
use Rattle.brl_rules.specs.declared.rule.Info.{Info}
use Rattle.brl_table.specs.ItemLimits.{IsWithinLimits, IsItemWithinLimits, IsRuleWithinLimits}
use Rattle.brl_rules.specs.Limits.{IsAmong, IsEntry, IsRule}
use Rattle.brl_table.specs.Reading.{definition_in, definitions, own_cells, rule_of}
use Rattle.brl_table.specs.Building.{over, is_known}
use Rattle.brl_rules.specs.Text.{fold_of, is_defined, is_text}
use Rattle.brl_rules.proofs.Facts.{or-true}

one-within : (files : ℕ) (item : Item) → IsItemWithinLimits files item → All (IsWithinLimits files) (definition_in item)
one-within files (Defines d) limits = All-cons (IsWithinLimits files) d [] limits.limits (All-nil (IsWithinLimits files))
one-within files (DefinesBoth upper lower) limits =
    All-cons (IsWithinLimits files) upper (lower ∷ []) limits.upper_limits (All-cons (IsWithinLimits files) lower [] limits.lower_limits (All-nil (IsWithinLimits files)))
one-within files (Rules r) limits = All-nil (IsWithinLimits files)
one-within files (Indicates sign cells) limits = All-nil (IsWithinLimits files)
one-within files (Lists l) limits = All-nil (IsWithinLimits files)
one-within files Nothing limits = All-nil (IsWithinLimits files)

pub definitions-within : (files : ℕ) (items : List Item) → All (IsItemWithinLimits files) items → All (IsWithinLimits files) (definitions items)
definitions-within files [] limits = All-nil (IsWithinLimits files)
definitions-within files (item ∷ items) limits =
    All-append (IsWithinLimits files) (definition_in item) (definitions items) (one-within files item (All-head (IsItemWithinLimits files) item items limits))
    (definitions-within files items (All-tail (IsItemWithinLimits files) item items limits))

-- ---- Folds are defined

abbrev Folded : List Definition → Definition → Type 0
Folded defined d = is_known defined d.fold ≡ true

own-fold : (files : ℕ) (item : Item) → IsItemWithinLimits files item → All (Folded (definition_in item)) (definition_in item)
own-fold files (Defines d) limits = All-cons (Folded (d ∷ [])) d [] (rw (eq-eqb d.fold d.character limits.own_fold) refl) (All-nil (Folded (d ∷ [])))
own-fold files (DefinesBoth upper lower) limits =
    All-cons (Folded (upper ∷ lower ∷ [])) upper (lower ∷ []) (rw (eq-eqb upper.fold lower.character limits.upper_fold) (or-true (nat_eq upper.fold upper.character)))
    (All-cons (Folded (upper ∷ lower ∷ [])) lower [] (rw (eq-eqb lower.fold lower.character limits.lower_fold) (or-true (nat_eq lower.fold upper.character)))
    (All-nil (Folded (upper ∷ lower ∷ []))))
own-fold files (Rules r) limits = All-nil (Folded [])
own-fold files (Indicates sign cells) limits = All-nil (Folded [])
own-fold files (Lists l) limits = All-nil (Folded [])
own-fold files Nothing limits = All-nil (Folded [])

known-among_more : (front middle rest : List Definition) (c : ℕ) → is_known middle c ≡ true → is_known (front ++ (middle ++ rest)) c ≡ true
known-among_more front middle rest c h =
    list_any-append (λ d. nat_eq c d.character) front (middle ++ rest)
    ∙ ap (λ b. is_known front c || b) (list_any-append (λ d. nat_eq c d.character) middle rest ∙ ap (λ b. b || is_known rest c) h)
    ∙ or-true (is_known front c)

folds-behind : (files : ℕ) (front : List Definition) (items : List Item) → All (IsItemWithinLimits files) items → All (Folded (front ++ definitions items)) (definitions items)
folds-behind files front [] limits = All-nil (Folded (front ++ []))
folds-behind files front (item ∷ items) limits =
    let whole = front ++ (definition_in item ++ definitions items) in
    let P : List Definition → Type 0 = λ all. All (Folded all) (definitions items) in
    All-append (Folded whole) (definition_in item) (definitions items)
    (All-weaker (Folded (definition_in item)) (Folded whole) (λ d h. known-among_more front (definition_in item) (definitions items) d.fold h) (definition_in item)
    (own-fold files item (All-head (IsItemWithinLimits files) item items limits)))
    (subst P (append_assoc front (definition_in item) (definitions items))
    (folds-behind files (front ++ definition_in item) items (All-tail (IsItemWithinLimits files) item items limits)))

-- the fold of each definition is one of the characters
pub folds-defined : (files : ℕ) (items : List Item) → All (IsItemWithinLimits files) items → All (λ d. is_known (definitions items) d.fold ≡ true) (definitions items)
folds-defined files items limits = folds-behind files [] items limits

-- ---- Rules over characters whose entries are valid

module _ (characters : List (ℕ × Info)) (files : ℕ) (entries : All (λ entry. IsEntry characters files entry.1) characters) where
  -- the entry of a defined character
  entry_of : (c : ℕ) (found : Option Info) → lookup (nat_eq c) characters ≡ found → is_some found ≡ true → (info : Info) × (lookup (nat_eq c) characters ≡ Some info) × IsEntry characters files info
  entry_of c None e h = cc
  entry_of c (Some info) e h =
      let place = place_from_lookup (nat_eq c) characters info e in
      let within = slice_get_within characters place.0 (place.1, info) place.2 in
      let P : ℕ × Info → Type 0 = λ entry. IsEntry characters files entry.1 in
      (info, e, subst P (get_or_from_slice_get characters place.0 (place.1, info) (place.1, info) place.2) (entries place.0 (place.1, info) within))

  entry : (c : ℕ) → is_defined (over characters) c ≡ true → (info : Info) × (lookup (nat_eq c) characters ≡ Some info) × IsEntry characters files info
  entry c h = entry_of c (lookup (nat_eq c) characters) refl h

  fold-among : (c : ℕ) → is_defined (over characters) c ≡ true → IsAmong characters (fold_of (over characters) c)
  fold-among c h =
      let e = entry c h in
      rw e.1 e.2.fold_defined

  folds-among : (chars : List ℕ) → is_text (over characters) chars ≡ true → All (IsAmong characters) (map (fold_of (over characters)) chars)
  folds-among [] h = All-nil (IsAmong characters)
  folds-among (c ∷ chars) h =
      All-cons (IsAmong characters) (fold_of (over characters) c) (map (fold_of (over characters)) chars)
      (fold-among c (first_so (is_defined (over characters) c) (is_text (over characters) chars) h))
      (folds-among chars (second_so (is_defined (over characters) c) (is_text (over characters) chars) h))

  -- between 1 and 16 cells for each character
  cells-some : (c : ℕ) → IsAmong characters c → 1 ≤ length (own_cells (over characters) c)
  cells-some c h = let e = entry c h in rw e.1 e.2.some_cells

  cells-few : (c : ℕ) → IsAmong characters c → length (own_cells (over characters) c) ≤ 16
  cells-few c h = let e = entry c h in rw e.1 e.2.few_cells

  joined-few : (chars : List ℕ) → All (IsAmong characters) chars → length (flat_map (own_cells (over characters)) chars) ≤ 16 * length chars
  joined-few [] all = omega arith
  joined-few (c ∷ chars) all =
      let one = cells-few c (All-head (IsAmong characters) c chars all) in
      let rest = joined-few chars (All-tail (IsAmong characters) c chars all) in
      omega (arith, length-append (own_cells (over characters) c) (flat_map (own_cells (over characters)) chars), one, rest)

  joined-some : (chars : List ℕ) → All (IsAmong characters) chars → length chars ≤ length (flat_map (own_cells (over characters)) chars)
  joined-some [] all = omega arith
  joined-some (c ∷ chars) all =
      let one = cells-some c (All-head (IsAmong characters) c chars all) in
      let rest = joined-some chars (All-tail (IsAmong characters) c chars all) in
      omega (arith, length-append (own_cells (over characters) c) (flat_map (own_cells (over characters)) chars), one, rest)

  given-some : (given : Option (List ℕ)) (own : List ℕ) → IfSome given (λ cells. 1 ≤ length cells) → 1 ≤ length own → 1 ≤ length (unwrap_or given own)
  given-some None own h k = k
  given-some (Some cells) own h k = h

  given-few : (given : Option (List ℕ)) (own : List ℕ) → IfSome given (λ cells. length cells ≤ 16) → length own ≤ 512 → length (unwrap_or given own) ≤ 512
  given-few None own h k = k
  given-few (Some cells) own h k = omega (arith, h)

  pub rule-within : (r : RuleLine) → IsRuleWithinLimits files r → is_text (over characters) r.chars ≡ true → IsRule characters files (rule_of (over characters) r)
  rule-within r limits text =
      let chars = map (fold_of (over characters)) r.chars in
      let among = folds-among r.chars text in
      let count : length chars ≡ length r.chars = length-map r.chars (fold_of (over characters)) in
      let some_characters = limits.some_characters in
      let few_characters = limits.few_characters in
      let some : 1 ≤ length (flat_map (own_cells (over characters)) chars) = omega (arith, joined-some chars among) in
      let few : length (flat_map (own_cells (over characters)) chars) ≤ 512 = omega (arith, joined-few chars among) in
      record {
        some_characters = omega arith;
        few_characters = omega arith;
        characters_defined = among;
        some_cells = given-some r.cells (flat_map (own_cells (over characters)) chars) limits.some_cells some;
        few_cells = given-few r.cells (flat_map (own_cells (over characters)) chars) limits.few_cells few;
        file_named = limits.file_named;
      }
