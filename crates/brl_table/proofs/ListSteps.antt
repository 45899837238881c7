-- The roles that list lines give, one more character or line.
use Rattle.std.proofs.Common.{ℕ, ◌+◌, ◌<◌, ◌≡◌, ◌≢◌, true, false, ◌||◌, List, [], ◌∷◌, ◌++◌, length, map, take, nat_eq, refl, sym, ◌∙◌, ap, Some, None, append-nil, append_assoc, get_or, arith, eq-eqb}
use Rattle.std.specs.List.{flat_map, list_any}
use Rattle.std.specs.Map.{lookup, set_value}
use Rattle.std.proofs.lemmas.List.{take_more}
use Rattle.std.proofs.lemmas.List.Folds.{list_any-append}
use Rattle.std.proofs.lemmas.Grind.{flat_map-append}
use Rattle.brl_table.specs.declared.characters.Characters.{Characters}
use Rattle.brl_table.specs.declared.item.Definition.{Definition}
use Rattle.brl_table.specs.declared.item.Item.{Item}
use Rattle.brl_table.specs.declared.item.Item.TheVariants.{Defines, DefinesBoth, Rules, Indicates, Lists, Nothing}
use Rattle.brl_table.specs.declared.item.ListLine.{ListLine}
use Rattle.brl_table.specs.declared.item.NumericRole.{NumericRole}
use Rattle.brl_table.specs.declared.item.NumericRole.TheVariants.{KeepsMode, NeedsNoContractSign}
use Rattle.brl_rules.specs.declared.rule.Info.{Info}
use Rattle.brl_table.specs.Reading.{Listed, chars_as, defined_characters, definitions, defined_entries, defined_info, listed_in, listed_characters}
use Rattle.brl_table.specs.Building.{with_role, listed_with, listed_more, none_listed, HaveRoles, AreWithinLimits, CharactersRepresent}
use Rattle.brl_table.proofs.NumberedEntries.{absent, found-numbered, numbered-old, numbered-same, single-fold}
use Rattle.brl_table.proofs.DefinitionSteps.{count-entries}
use Rattle.brl_rules.proofs.Facts.{nat_eq-sym, or-false, or-true}

other-more : (x c : ℕ) (xs : List ℕ) → nat_eq x c ≡ false → list_any (nat_eq x) (xs ++ c ∷ []) ≡ list_any (nat_eq x) xs
other-more x c xs h = list_any-append (nat_eq x) xs (c ∷ []) ∙ ap (λ b. list_any (nat_eq x) xs || (b || false)) h ∙ or-false (list_any (nat_eq x) xs)

same-more : (c : ℕ) (xs : List ℕ) → list_any (nat_eq c) (xs ++ c ∷ []) ≡ true
same-more c xs = list_any-append (nat_eq c) xs (c ∷ []) ∙ ap (λ b. list_any (nat_eq c) xs || (b || false)) (eq-eqb c c refl) ∙ or-true (list_any (nat_eq c) xs)

any-flip : (c : ℕ) (xs : List ℕ) → list_any (λ y. nat_eq y c) xs ≡ list_any (nat_eq c) xs
any-flip c [] = refl
any-flip c (x ∷ xs) = ap (λ b. b || list_any (λ y. nat_eq y c) xs) (nat_eq-sym x c) ∙ ap (λ b. nat_eq c x || b) (any-flip c xs)

module _ (defined : List Definition) (listed : Listed) (c : ℕ) where
  info-unlisted : (role : NumericRole) (n x : ℕ) → nat_eq x c ≡ false → defined_info defined (listed_more role (c ∷ []) listed) n x ≡ defined_info defined listed n x
  info-unlisted KeepsMode n x h = rw (other-more x c listed.mode h) refl
  info-unlisted NeedsNoContractSign n x h = rw (other-more x c listed.nocont h) refl

  info-listed : (role : NumericRole) (n : ℕ) → defined_info defined (listed_more role (c ∷ []) listed) n c ≡ with_role role (defined_info defined listed n c)
  info-listed KeepsMode n = rw (same-more c listed.mode) refl
  info-listed NeedsNoContractSign n = rw (same-more c listed.nocont) refl

  -- a defined character
  entries-listed : (role : NumericRole) (old : Info) → lookup (nat_eq c) (defined_entries defined listed) ≡ Some old
      → set_value (nat_eq c) (defined_entries defined listed) (with_role role old) ≡ defined_entries defined (listed_more role (c ∷ []) listed)
  entries-listed role old found =
      numbered-old (defined_info defined listed) (defined_info defined (listed_more role (c ∷ []) listed)) c (info-unlisted role) (with_role role) (info-listed role) 0 (defined_characters defined) old
      (single-fold (map (λ d. d.character) defined) [] tt) found

  -- an undefined one
  entries-unlisted : (role : NumericRole) → lookup (nat_eq c) (defined_entries defined listed) ≡ None → defined_entries defined listed ≡ defined_entries defined (listed_more role (c ∷ []) listed)
  entries-unlisted role none =
      numbered-same (defined_info defined listed) (defined_info defined (listed_more role (c ∷ []) listed)) c (info-unlisted role) 0 (defined_characters defined)
      (any-flip c (defined_characters defined) ∙ sym (found-numbered (defined_info defined listed) c 0 (defined_characters defined)) ∙ absent (lookup (nat_eq c) (defined_entries defined listed)) none)

more-again : (role : NumericRole) (cs : List ℕ) (c : ℕ) (listed : Listed) → listed_more role (c ∷ []) (listed_more role cs listed) ≡ listed_more role (cs ++ c ∷ []) listed
more-again KeepsMode cs c listed = ap (λ xs. let l : Listed = record listed { mode = xs } in l) (append_assoc listed.mode cs (c ∷ []))
more-again NeedsNoContractSign cs c listed = ap (λ xs. let l : Listed = record listed { nocont = xs } in l) (append_assoc listed.nocont cs (c ∷ []))

-- the entries after some characters got a role
abbrev pub AppliesRole : NumericRole → List (ℕ × Info) → List (ℕ × Info) → List ℕ → Type 0
AppliesRole role old new cs = (defined : List Definition) (listed : Listed) → old ≡ defined_entries defined listed → new ≡ defined_entries defined (listed_more role cs listed)

module _ (role : NumericRole) (old before after : List (ℕ × Info)) (cs : List ℕ) (c : ℕ) (roles : AppliesRole role old before cs) where
  pub roles-known : (info new : Info) → lookup (nat_eq c) before ≡ Some info → new ≡ with_role role info → after ≡ set_value (nat_eq c) before new → AppliesRole role old after (cs ++ c ∷ [])
  roles-known info new found set_role set defined listed h =
      let e = roles defined listed h in
      set ∙ ap (λ i. set_value (nat_eq c) before i) set_role ∙ ap (λ es. set_value (nat_eq c) es (with_role role info)) e
      ∙ entries-listed defined (listed_more role cs listed) c role info (ap (lookup (nat_eq c)) (sym e) ∙ found) ∙ ap (defined_entries defined) (more-again role cs c listed)

  pub roles-unknown : lookup (nat_eq c) before ≡ None → after ≡ before → AppliesRole role old after (cs ++ c ∷ [])
  roles-unknown none same defined listed h =
      let e = roles defined listed h in
      same ∙ e ∙ entries-unlisted defined (listed_more role cs listed) c role (ap (lookup (nat_eq c)) (sym e) ∙ none) ∙ ap (defined_entries defined) (more-again role cs c listed)

-- the characters up to the next one of a loop
pub next_character : (chars items : List ℕ) (i c : ℕ) → items ≡ chars → i < length items → c ≡ get_or items i c → take (i + 1) chars ≡ take i chars ++ c ∷ []
next_character chars items i c same within is =
    ap (take (i + 1)) (sym same) ∙ take_more items i c within ∙ ap (λ x. take i items ++ x ∷ []) (sym is) ∙ ap (λ xs. take i xs ++ c ∷ []) same

-- ---- the list lines among items

abbrev pub AppliesLists : List (ℕ × Info) → List (ℕ × Info) → List Item → Type 0
AppliesLists old new items = (defined : List Definition) (listed : Listed) → old ≡ defined_entries defined listed → new ≡ defined_entries defined (listed_with listed items)

module _ (listed : Listed) (items : List Item) (item : Item) where
  one-mode : listed.mode ++ flat_map (listed_in KeepsMode) (items ++ item ∷ []) ≡ (listed.mode ++ flat_map (listed_in KeepsMode) items) ++ listed_in KeepsMode item
  one-mode =
      ap (λ xs. listed.mode ++ xs) (flat_map-append (listed_in KeepsMode) items (item ∷ []) ∙ ap (λ xs. flat_map (listed_in KeepsMode) items ++ xs) (append-nil (listed_in KeepsMode item)))
      ∙ sym (append_assoc listed.mode (flat_map (listed_in KeepsMode) items) (listed_in KeepsMode item))

  one-nocont : listed.nocont ++ flat_map (listed_in NeedsNoContractSign) (items ++ item ∷ []) ≡ (listed.nocont ++ flat_map (listed_in NeedsNoContractSign) items) ++ listed_in NeedsNoContractSign item
  one-nocont =
      ap (λ xs. listed.nocont ++ xs) (flat_map-append (listed_in NeedsNoContractSign) items (item ∷ []) ∙ ap (λ xs. flat_map (listed_in NeedsNoContractSign) items ++ xs) (append-nil (listed_in NeedsNoContractSign item)))
      ∙ sym (append_assoc listed.nocont (flat_map (listed_in NeedsNoContractSign) items) (listed_in NeedsNoContractSign item))

  one-item : listed_with listed (items ++ item ∷ [])
      ≡ record {
        mode = (listed_with listed items).mode ++ listed_in KeepsMode item;
        nocont = (listed_with listed items).nocont ++ listed_in NeedsNoContractSign item;
      }
  one-item = rw (one-mode, one-nocont) refl

by_role : (role : NumericRole) (chars : List ℕ) (listed : Listed)
    → (let l : Listed = record { mode = listed.mode ++ chars_as KeepsMode role chars; nocont = listed.nocont ++ chars_as NeedsNoContractSign role chars } in l) ≡ listed_more role chars listed
by_role KeepsMode chars listed = ap (λ xs. let l : Listed = record listed { mode = listed.mode ++ chars; nocont = xs } in l) (append-nil listed.nocont)
by_role NeedsNoContractSign chars listed = ap (λ xs. let l : Listed = record listed { mode = xs; nocont = listed.nocont ++ chars } in l) (append-nil listed.mode)

not_listed : (role : NumericRole) (item : Item) → ((l : ListLine) → item ≢ Lists l) → listed_in role item ≡ []
not_listed role (Defines d) h = refl
not_listed role (DefinesBoth upper lower) h = refl
not_listed role (Rules r) h = refl
not_listed role (Indicates sign cells) h = refl
not_listed role (Lists l) h = absurd (h l refl)
not_listed role Nothing h = refl

module _ (old before after : List (ℕ × Info)) (items : List Item) (item : Item) (roles : AppliesLists old before items) where
  -- one more list line
  pub roles-line : (l : ListLine) → item ≡ Lists l → AppliesRole l.role before after l.chars → AppliesLists old after (items ++ item ∷ [])
  roles-line l is line defined listed h =
      line defined (listed_with listed items) (roles defined listed h)
      ∙ ap (defined_entries defined) (sym (by_role l.role l.chars (listed_with listed items)) ∙ sym (one-item listed items (Lists l)) ∙ ap (λ i. listed_with listed (items ++ i ∷ [])) (sym is))

  -- one more line of another kind
  pub roles-other : ((l : ListLine) → item ≢ Lists l) → after ≡ before → AppliesLists old after (items ++ item ∷ [])
  roles-other other same defined listed h =
      let first = not_listed KeepsMode item other in
      let second = not_listed NeedsNoContractSign item other in
      same ∙ roles defined listed h
      ∙ ap (defined_entries defined) (sym (one-item listed items item ∙ rw (first, second, append-nil (listed_with listed items).mode, append-nil (listed_with listed items).nocont) refl))

-- ---- all lines

pub all-marked : (items shown : List Item) (old new : Characters) → CharactersRepresent (definitions items) old → shown ≡ items
    → AppliesLists old.infos.entries new.infos.entries shown → new.notices ≡ old.notices → HaveRoles items new
all-marked items shown old new represents same roles notices = record {
  entries_are = roles (definitions items) none_listed represents.entries_are ∙ ap (λ xs. defined_entries (definitions items) (listed_characters xs)) same;
  notices_are = ap (λ ns. ns.items) notices ∙ represents.notices_are;
}

pub still-within : (items : List Item) (old new : Characters) (signs : List (List ℕ)) (used : ℕ) → CharactersRepresent (definitions items) old → HaveRoles items new → AreWithinLimits old signs used → AreWithinLimits new signs used
still-within items old new signs used represents marked within =
    let before : length old.infos.entries ≡ length (defined_characters (definitions items)) = ap length represents.entries_are ∙ count-entries (definitions items) none_listed in
    let after : length new.infos.entries ≡ length (defined_characters (definitions items)) = ap length marked.entries_are ∙ count-entries (definitions items) (listed_characters items) in
    record { few_characters = omega (arith, before, after, within.few_characters); few_cells = within.few_cells; few_rules = within.few_rules }
