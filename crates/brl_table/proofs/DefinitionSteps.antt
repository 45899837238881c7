-- One more definition: the entries, the characters of plain lines, and the notices.
use Rattle.std.proofs.Common.{ℕ, ◌+◌, ◌≤◌, ◌≡◌, Bool, true, false, ◌||◌, ◌&&◌, cond, if◌then◌else◌, List, [], ◌∷◌, ◌++◌, length, map, nat_eq, refl, arith, sym, ◌∙◌, ap, Option, Some, None, append-nil, append_assoc, bit_or, is_some, not, eqb-true, eq-eqb}
use Rattle.std.specs.Int.Bits.{or_zero_l}
use Rattle.std.specs.List.{find, list_any}
use Rattle.std.specs.Map.{lookup, set_value}
use Rattle.std.specs.Option.{option_map_or, option_or}
use Rattle.std.proofs.lemmas.List.{map-append}
use Rattle.std.proofs.lemmas.List.Folds.{find-append}
use Rattle.std.proofs.lemmas.List.Sums.{fold-append}
use Rattle.std.proofs.lemmas.List.Elements.{filter-append}
use Rattle.std.proofs.lemmas.Bool.{or_parts}
use Rattle.indexmap.specs.IndexMap.{insert_entry}
use Rattle.indexmap.specs.IndexSet.{contains}
use Rattle.brl_rules.specs.declared.class.Class.{Class}
use Rattle.brl_table.specs.declared.characters.Characters.{Characters}
use Rattle.brl_table.specs.declared.item.Definition.{Definition}
use Rattle.brl_rules.specs.declared.rule.Info.{Info}
use Rattle.brl_table.specs.Reading.{Listed, insert_new, dedup, about, defined_characters, defined_classes, defined_entries, first_literary, first_plain, first_uplow, defined_info, is_repeated, notice_of, notices_after, with_numbers}
use Rattle.brl_table.specs.Building.{info_first, is_known, merged, none_listed, CharactersRepresent}
use Rattle.brl_table.proofs.Inserting.{any-fold, put-known}
use Rattle.brl_table.proofs.NumberedEntries.{absent, found-numbered, is_there, length-numbered, numbered-new, numbered-old, single-fold, there}
use Rattle.brl_rules.proofs.Facts.{nat_eq-sym}

-- ---- whether a character is known

any-map : (c : ℕ) (defined : List Definition) → list_any (nat_eq c) (map (λ d. d.character) defined) ≡ is_known defined c
any-map c [] = refl
any-map c (d ∷ defined) = ap (λ b. nat_eq c d.character || b) (any-map c defined)

pub known-listed : (defined : List Definition) (c : ℕ) → list_any (nat_eq c) (defined_characters defined) ≡ is_known defined c
known-listed defined c = any-fold nat_eq (λ c x y e. ap (nat_eq c) (sym (eqb-true x y e))) c (map (λ d. d.character) defined) [] ∙ any-map c defined

pub known-found : (defined : List Definition) (listed : Listed) (c : ℕ) → is_there (lookup (nat_eq c) (defined_entries defined listed)) ≡ is_known defined c
known-found defined listed c = found-numbered (defined_info defined listed) c 0 (defined_characters defined) ∙ known-listed defined c

unknown-about : (defined : List Definition) (c : ℕ) → is_known defined c ≡ false → about defined c ≡ []
unknown-about [] c h = refl
unknown-about (d ∷ defined) c h =
    let p = or_parts (nat_eq c d.character) (is_known defined c) h in
    rw p.0 (unknown-about defined c p.1)

-- a character that isn't known has no line of any kind
unknown-find : (kind : Definition → Bool) (defined : List Definition) (c : ℕ) → is_known defined c ≡ false → find (λ d. nat_eq c d.character && kind d) defined ≡ None
unknown-find kind [] c h = refl
unknown-find kind (d ∷ defined) c h =
    let p = or_parts (nat_eq c d.character) (is_known defined c) h in
    rw p.0 (unknown-find kind defined c p.1)

-- a known character without a `litdigit` line has a plain one
pub plain-known : (defined : List Definition) (c : ℕ) → is_known defined c ≡ true → first_literary defined c ≡ None → (d : Definition) × (first_plain defined c ≡ Some d)
plain-known [] c h none = cc
plain-known (d ∷ defined) c h none = cases (nat_eq c d.character) d.literary h none (plain-known defined c)
  where
    cases : (b l : Bool) → b || is_known defined c ≡ true → cond (b && l) (Some d) (first_literary defined c) ≡ None
        → (is_known defined c ≡ true → first_literary defined c ≡ None → (e : Definition) × (first_plain defined c ≡ Some e))
        → (e : Definition) × (cond (b && not l) (Some d) (first_plain defined c) ≡ Some e)
    cases true true k none more = cc
    cases true false k none more = (d, refl)
    cases false l k none more = more k none

-- an element that is found passes the test
find-passes : {X : Type 0} (p : X → Bool) (xs : List X) (x : X) → find p xs ≡ Some x → p x ≡ true
find-passes p [] x h = cc
find-passes p (y ∷ ys) x h = cases (p y) refl h (find-passes p ys x)
  where
    cases : (b : Bool) → p y ≡ b → cond b (Some y) (find p ys) ≡ Some x → (find p ys ≡ Some x → p x ≡ true) → p x ≡ true
    cases true e k more = let s : y ≡ x = cc (k) in ap p (sym s) ∙ e
    cases false e k more = more k

second-so : (a b : Bool) → a && not b ≡ true → b ≡ false
second-so true true h = cc
second-so true false h = refl
second-so false b h = cc

uplow-other : (defined : List Definition) (c : ℕ) (d : Definition) → first_uplow defined c ≡ Some d → nat_eq c d.fold ≡ false
uplow-other defined c d h =
    second-so (nat_eq c d.character) (nat_eq c d.fold) (find-passes (λ e. nat_eq c e.character && not (nat_eq c e.fold)) defined d h)

-- ---- the info of a character, by its first lines

abbrev described : Listed → ℕ → ℕ → Class → Option Definition → Option Definition → Option Definition → Info
described listed n c classes literary plain uplow = record {
  number = n;
  cells = option_map_or (λ d. d.cells) (option_or literary plain) [];
  classes = classes;
  literary = is_some literary;
  mode = list_any (nat_eq c) listed.mode;
  nocont = list_any (nat_eq c) listed.nocont;
  fold = option_map_or (λ d. d.fold) uplow c;
  file = option_map_or (λ d. d.file) (option_or literary plain) 0;
  line = option_map_or (λ d. d.line) (option_or literary plain) 0;
}

abbrev given : Bool → Definition → Option Definition
given b d = cond b (Some d) None

or-none : {X : Type 0} (o : Option X) → option_or o None ≡ o
or-none None = refl
or-none (Some x) = refl

-- the line that gives a character its cells, with one more line
module _ {X : Type 0} (part : Definition → X) (none : X) (d : Definition) where
  defining-more : (literary plain : Option Definition) (b : Bool) → (literary ≡ None → (e : Definition) × (plain ≡ Some e))
      → option_map_or part (option_or (option_or literary (given b d)) (option_or plain (given (not b) d))) none
      ≡ cond (b && not (is_some literary)) (part d) (option_map_or part (option_or literary plain) none)
  defining-more (Some e) plain true h = refl
  defining-more (Some e) plain false h = refl
  defining-more None plain true h = refl
  defining-more None plain false h = let e = h refl in rw e.1 refl

  defining-first : (b : Bool) → option_map_or part (option_or (given b d) (given (not b) d)) none ≡ part d
  defining-first true = refl
  defining-first false = refl

literary-more : (literary : Option Definition) (b : Bool) (d : Definition) → is_some (option_or literary (given b d)) ≡ is_some literary || b
literary-more (Some e) b d = refl
literary-more None true d = refl
literary-more None false d = refl

literary-first : (b : Bool) (d : Definition) → is_some (given b d) ≡ b
literary-first true d = refl
literary-first false d = refl

fold-given : (c : ℕ) (d : Definition) (b : Bool) → nat_eq c d.fold ≡ b → option_map_or (λ e. e.fold) (given (not b) d) c ≡ d.fold
fold-given c d true e = eqb-true c d.fold e
fold-given c d false e = refl

fold-more : (c : ℕ) (d : Definition) (uplow : Option Definition) → ((e : Definition) → uplow ≡ Some e → nat_eq c e.fold ≡ false)
    → option_map_or (λ e. e.fold) (option_or uplow (given (not (nat_eq c d.fold)) d)) c
    ≡ cond (nat_eq c (option_map_or (λ e. e.fold) uplow c)) d.fold (option_map_or (λ e. e.fold) uplow c)
fold-more c d None h = rw (eq-eqb c c refl) (fold-given c d (nat_eq c d.fold) refl)
fold-more c d (Some e) h = rw (h e refl) refl

-- two infos with equal fields are equal
same-info : (listed : Listed) (n c : ℕ) (classes : Class) (cells cells' : List ℕ) (literary literary' : Bool) (fold fold' file file' line line' : ℕ)
    → cells ≡ cells' → literary ≡ literary' → fold ≡ fold' → file ≡ file' → line ≡ line'
    → (let info : Info = record { number = n; cells = cells; classes = classes; literary = literary; mode = list_any (nat_eq c) listed.mode; nocont = list_any (nat_eq c) listed.nocont; fold = fold; file = file; line = line } in info)
    ≡ record { number = n; cells = cells'; classes = classes; literary = literary'; mode = list_any (nat_eq c) listed.mode; nocont = list_any (nat_eq c) listed.nocont; fold = fold'; file = file'; line = line' }
same-info listed n c classes cells cells' literary literary' fold fold' file file' line line' a b e f g = cc

-- ---- one more definition

module _ (defined : List Definition) (d : Definition) where
  about-other : (x : ℕ) → nat_eq x d.character ≡ false → about (defined ++ d ∷ []) x ≡ about defined x
  about-other x h = rw (filter-append, h) (append-nil (about defined x))

  about-same : about (defined ++ d ∷ []) d.character ≡ about defined d.character ++ d ∷ []
  about-same = rw (filter-append, eq-eqb d.character d.character refl) refl

  find-other : (kind : Definition → Bool) (x : ℕ) → nat_eq x d.character ≡ false
      → find (λ e. nat_eq x e.character && kind e) (defined ++ d ∷ []) ≡ find (λ e. nat_eq x e.character && kind e) defined
  find-other kind x h = rw (find-append (λ e. nat_eq x e.character && kind e) defined (d ∷ []), h) (or-none (find (λ e. nat_eq x e.character && kind e) defined))

  find-same : (kind : Definition → Bool)
      → find (λ e. nat_eq d.character e.character && kind e) (defined ++ d ∷ []) ≡ option_or (find (λ e. nat_eq d.character e.character && kind e) defined) (given (kind d) d)
  find-same kind = rw (find-append (λ e. nat_eq d.character e.character && kind e) defined (d ∷ []), eq-eqb d.character d.character refl) refl

  info-other : (listed : Listed) (n x : ℕ) → nat_eq x d.character ≡ false → defined_info (defined ++ d ∷ []) listed n x ≡ defined_info defined listed n x
  info-other listed n x h =
      rw (about-other x h, find-other (λ e. e.literary) x h, find-other (λ e. not e.literary) x h, find-other (λ e. not (nat_eq x e.fold)) x h) refl

  pub characters-more : defined_characters (defined ++ d ∷ []) ≡ insert_new nat_eq (defined_characters defined) d.character
  characters-more =
      ap (dedup nat_eq) (map-append (λ e. e.character) defined (d ∷ []))
      ∙ fold-append (insert_new nat_eq) [] (map (λ e. e.character) defined) (d.character ∷ [])

  info-more : (listed : Listed) (n : ℕ)
      → defined_info (defined ++ d ∷ []) listed n d.character
      ≡ described listed n d.character (record { 0 = bit_or (defined_classes defined d.character).0 d.classes.0 })
      (option_or (first_literary defined d.character) (given d.literary d)) (option_or (first_plain defined d.character) (given (not d.literary) d))
      (option_or (first_uplow defined d.character) (given (not (nat_eq d.character d.fold)) d))
  info-more listed n =
      rw (about-same, map-append, fold-append, find-same (λ e. e.literary), find-same (λ e. not e.literary), find-same (λ e. not (nat_eq d.character e.fold))) refl

  info-again : is_known defined d.character ≡ true → (listed : Listed) (n : ℕ) → defined_info (defined ++ d ∷ []) listed n d.character ≡ merged d (defined_info defined listed n d.character)
  info-again h listed n =
      let c = d.character in
      let plain = plain-known defined c h in
      info-more listed n
      ∙ same-info listed n c _ _ _ _ _ _ _ _ _ _ _
      (defining-more (λ e. e.cells) [] d (first_literary defined c) (first_plain defined c) d.literary plain)
      (literary-more (first_literary defined c) d.literary d)
      (fold-more c d (first_uplow defined c) (uplow-other defined c))
      (defining-more (λ e. e.file) 0 d (first_literary defined c) (first_plain defined c) d.literary plain)
      (defining-more (λ e. e.line) 0 d (first_literary defined c) (first_plain defined c) d.literary plain)

  info-new : is_known defined d.character ≡ false → (n : ℕ) → defined_info (defined ++ d ∷ []) none_listed n d.character ≡ info_first n d
  info-new h n =
      let c = d.character in
      info-more none_listed n
      ∙ rw (unknown-about defined c h, unknown-find (λ e. e.literary) defined c h, unknown-find (λ e. not e.literary) defined c h, unknown-find (λ e. not (nat_eq c e.fold)) defined c h, or_zero_l)
      (same-info none_listed n c _ _ _ _ _ _ _ _ _ _ _
      (defining-first (λ e. e.cells) [] d d.literary) (literary-first d.literary d) (fold-given c d (nat_eq c d.fold) refl)
      (defining-first (λ e. e.file) 0 d d.literary) (defining-first (λ e. e.line) 0 d d.literary))

  -- ---- the entries

  -- a known character
  pub entries-again : (old new : Info) (characters after : List (ℕ × Info)) → characters ≡ defined_entries defined none_listed → lookup (nat_eq d.character) characters ≡ Some old
      → new ≡ merged d old → after ≡ set_value (nat_eq d.character) characters new → after ≡ defined_entries (defined ++ d ∷ []) none_listed
  entries-again old new characters after e found is set =
      let c = d.character in
      let look : lookup (nat_eq c) (defined_entries defined none_listed) ≡ Some old = ap (lookup (nat_eq c)) (sym e) ∙ found in
      let known : is_known defined c ≡ true = sym (known-found defined none_listed c) ∙ there (lookup (nat_eq c) (defined_entries defined none_listed)) old look in
      let single = single-fold (map (λ x. x.character) defined) [] tt in
      let step = numbered-old (defined_info defined none_listed) (defined_info (defined ++ d ∷ []) none_listed) c (info-other none_listed) (merged d) (info-again known none_listed) 0 (defined_characters defined) old single look in
      let stay : defined_characters defined ≡ defined_characters (defined ++ d ∷ []) = sym (characters-more ∙ put-known nat_eq c (defined_characters defined) (known-listed defined c ∙ known)) in
      set ∙ ap (λ i. set_value (nat_eq c) characters i) is ∙ ap (λ es. set_value (nat_eq c) es (merged d old)) e
      ∙ step ∙ ap (with_numbers (defined_info (defined ++ d ∷ []) none_listed) 0) stay

  -- a new character
  pub entries-new : (number : ℕ) (characters after : List (ℕ × Info)) → characters ≡ defined_entries defined none_listed → lookup (nat_eq d.character) characters ≡ None
      → number ≡ length characters → after ≡ insert_entry nat_eq characters d.character (info_first number d) → after ≡ defined_entries (defined ++ d ∷ []) none_listed
  entries-new number characters after e found counted inserted =
      let c = d.character in
      let look : lookup (nat_eq c) (defined_entries defined none_listed) ≡ None = ap (lookup (nat_eq c)) (sym e) ∙ found in
      let new : is_known defined c ≡ false = sym (known-found defined none_listed c) ∙ absent (lookup (nat_eq c) (defined_entries defined none_listed)) look in
      let place : number ≡ 0 + length (defined_characters defined) =
      counted ∙ ap length e ∙ length-numbered (defined_info defined none_listed) 0 (defined_characters defined) ∙ (let z : length (defined_characters defined) ≡ 0 + length (defined_characters defined) = omega arith in z) in
      let step = numbered-new (defined_info defined none_listed) (defined_info (defined ++ d ∷ []) none_listed) c (info-other none_listed) 0 (defined_characters defined) look in
      inserted ∙ ap (insert_entry nat_eq characters c) (sym (info-new new number))
      ∙ ap (λ n. insert_entry nat_eq characters c (defined_info (defined ++ d ∷ []) none_listed n c)) place
      ∙ ap (λ es. insert_entry nat_eq es c (defined_info (defined ++ d ∷ []) none_listed (0 + length (defined_characters defined)) c)) e
      ∙ step ∙ ap (with_numbers (defined_info (defined ++ d ∷ []) none_listed) 0) (sym characters-more)

  -- ---- the plain lines

  plain-same : (c : ℕ) → d.literary ≡ true → first_plain (defined ++ d ∷ []) c ≡ first_plain defined c
  plain-same c h =
      find-append (λ e. nat_eq c e.character && not e.literary) defined (d ∷ [])
      ∙ ap (λ l. option_or (first_plain defined c) (given (nat_eq c d.character && not l) d)) h ∙ cases (nat_eq c d.character)
    where
      cases : (b : Bool) → option_or (first_plain defined c) (given (b && false) d) ≡ first_plain defined c
      cases true = or-none (first_plain defined c)
      cases false = or-none (first_plain defined c)

  plain-added : (c : ℕ) → d.literary ≡ false → is_some (first_plain (defined ++ d ∷ []) c) ≡ cond (nat_eq d.character c) true (is_some (first_plain defined c))
  plain-added c h =
      ap is_some (find-append (λ e. nat_eq c e.character && not e.literary) defined (d ∷ []))
      ∙ ap (λ l. is_some (option_or (first_plain defined c) (given (nat_eq c d.character && not l) d))) h
      ∙ ap (λ b. is_some (option_or (first_plain defined c) (given (b && true) d))) (nat_eq-sym c d.character) ∙ cases (nat_eq d.character c) (first_plain defined c)
    where
      cases : (b : Bool) (plain : Option Definition) → is_some (option_or plain (given (b && true) d)) ≡ cond b true (is_some plain)
      cases true None = refl
      cases true (Some e) = refl
      cases false None = refl
      cases false (Some e) = refl

-- ---- the notices

pub notices-more : (earlier defined : List Definition) (d : Definition) → notices_after earlier (defined ++ d ∷ []) ≡ notices_after earlier defined ++ (if is_repeated (earlier ++ defined) d then notice_of d ∷ [] else [])
notices-more earlier [] d =
    append-nil (if is_repeated earlier d then notice_of d ∷ [] else [])
    ∙ ap (λ es. if is_repeated es d then notice_of d ∷ [] else []) (sym (append-nil earlier))
notices-more earlier (e ∷ defined) d =
    ap (λ ns. (if is_repeated earlier e then notice_of e ∷ [] else []) ++ ns) (notices-more (earlier ++ e ∷ []) defined d ∙
    ap (λ es. notices_after (earlier ++ e ∷ []) defined ++ (if is_repeated es d then notice_of d ∷ [] else [])) (append_assoc earlier (e ∷ []) defined))
    ∙ sym (append_assoc (if is_repeated earlier e then notice_of e ∷ [] else []) (notices_after (earlier ++ e ∷ []) defined) (if is_repeated (earlier ++ e ∷ defined) d then notice_of d ∷ [] else []))

-- ---- lines of the same kind

literary-numbered : (defined : List Definition) (listed : Listed) (c n : ℕ) (xs : List ℕ)
    → option_map_or (λ i. i.literary) (lookup (nat_eq c) (with_numbers (defined_info defined listed) n xs)) false ≡ list_any (nat_eq c) xs && is_some (first_literary defined c)
literary-numbered defined listed c n [] = refl
literary-numbered defined listed c n (x ∷ xs) = cases (nat_eq c x) refl (literary-numbered defined listed c (n + 1) xs)
  where
    cases : (b : Bool) → nat_eq c x ≡ b
        → option_map_or (λ i. i.literary) (lookup (nat_eq c) (with_numbers (defined_info defined listed) (n + 1) xs)) false ≡ list_any (nat_eq c) xs && is_some (first_literary defined c)
        → option_map_or (λ i. i.literary) (cond b (Some (defined_info defined listed n x)) (lookup (nat_eq c) (with_numbers (defined_info defined listed) (n + 1) xs))) false
        ≡ (b || list_any (nat_eq c) xs) && is_some (first_literary defined c)
    cases true e more = ap (λ y. is_some (first_literary defined y)) (sym (eqb-true c x e))
    cases false e more = more

literary-known : (defined : List Definition) (c : ℕ) (b : Bool) → is_known defined c ≡ b → b && is_some (first_literary defined c) ≡ is_some (first_literary defined c)
literary-known defined c true h = refl
literary-known defined c false h = ap is_some (sym (unknown-find (λ d. d.literary) defined c h))

-- whether a character has a `litdigit` line
pub literary-is : (defined : List Definition) (listed : Listed) (characters : List (ℕ × Info)) (c : ℕ) → characters ≡ defined_entries defined listed
    → option_map_or (λ i. i.literary) (lookup (nat_eq c) characters) false ≡ is_some (first_literary defined c)
literary-is defined listed characters c e =
    ap (λ es. option_map_or (λ i. i.literary) (lookup (nat_eq c) es) false) e ∙ literary-numbered defined listed c 0 (defined_characters defined)
    ∙ ap (λ b. b && is_some (first_literary defined c)) (known-listed defined c) ∙ literary-known defined c (is_known defined c) refl

-- the characters of plain lines, with one more definition
abbrev PlainMore : Definition → (ℕ → Bool) → (ℕ → Bool) → Type 0
PlainMore d old after = (c : ℕ) → after c ≡ cond d.literary (old c) (cond (nat_eq d.character c) true (old c))

module _ (defined : List Definition) (d : Definition) (characters : Characters) (represents : CharactersRepresent defined characters) where
  pub again-literary : (b : Bool) → b ≡ option_map_or (λ i. i.literary) (lookup (nat_eq d.character) characters.infos.entries) false → d.literary ≡ true → b ≡ is_repeated defined d
  again-literary b h l =
      h ∙ literary-is defined none_listed characters.infos.entries d.character represents.entries_are
      ∙ ap (λ k. is_some (cond k (first_literary defined d.character) (first_plain defined d.character))) (sym l)

  pub again-plain : (b : Bool) → b ≡ contains nat_eq characters.plain d.character → d.literary ≡ false → b ≡ is_repeated defined d
  again-plain b h l =
      h ∙ represents.plain_are d.character ∙ ap (λ k. is_some (cond k (first_literary defined d.character) (first_plain defined d.character))) (sym l)

  -- what represents the definitions, with one more
  pub represents-more : (after : Characters) → after.infos.entries ≡ defined_entries (defined ++ d ∷ []) none_listed
      → PlainMore d (contains nat_eq characters.plain) (contains nat_eq after.plain)
      → after.notices.items ≡ characters.notices.items ++ cond (is_repeated defined d) (notice_of d ∷ []) [] → CharactersRepresent (defined ++ d ∷ []) after
  represents-more after entries plain notices = record {
    entries_are = entries;
    plain_are = λ c. plain c ∙ by_kind c d.literary refl;
    notices_are = notices ∙ ap (λ ns. ns ++ cond (is_repeated defined d) (notice_of d ∷ []) []) represents.notices_are ∙ sym (notices-more [] defined d);
  }
    where
      by_kind : (c : ℕ) (l : Bool) → d.literary ≡ l
          → cond l (contains nat_eq characters.plain c) (cond (nat_eq d.character c) true (contains nat_eq characters.plain c)) ≡ is_some (first_plain (defined ++ d ∷ []) c)
      by_kind c true h = represents.plain_are c ∙ ap is_some (sym (plain-same defined d c h))
      by_kind c false h = ap (cond (nat_eq d.character c) true) (represents.plain_are c) ∙ sym (plain-added defined d c h)

-- ---- too many characters

pub count-entries : (defined : List Definition) (listed : Listed) → length (defined_entries defined listed) ≡ length (defined_characters defined)
count-entries defined listed = length-numbered (defined_info defined listed) 0 (defined_characters defined)

put-one_more : (xs : List ℕ) (c : ℕ) → length (insert_new nat_eq xs c) ≤ length xs + 1
put-one_more [] c = omega arith
put-one_more (x ∷ xs) c = cases (nat_eq c x) (put-one_more xs c)
  where
    cases : (b : Bool) → length (insert_new nat_eq xs c) ≤ length xs + 1 → length (cond b (x ∷ xs) (x ∷ insert_new nat_eq xs c)) ≤ length (x ∷ xs) + 1
    cases true h = omega arith
    cases false h = omega (arith, h)

-- a definition adds one character at most
pub one-more : (defined : List Definition) (d : Definition) (old new : Characters) → CharactersRepresent defined old → CharactersRepresent (defined ++ d ∷ []) new
    → length new.infos.entries ≤ length old.infos.entries + 1
one-more defined d old new before after =
    let first : length old.infos.entries ≡ length (defined_characters defined) = ap length before.entries_are ∙ count-entries defined none_listed in
    let last : length new.infos.entries ≡ length (insert_new nat_eq (defined_characters defined) d.character) =
    ap length after.entries_are ∙ count-entries (defined ++ d ∷ []) none_listed ∙ ap length (characters-more defined d) in
    omega (arith, first, last, put-one_more (defined_characters defined) d.character)
