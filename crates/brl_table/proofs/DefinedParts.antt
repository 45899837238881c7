-- What definitions give is valid as parts of a table: entries, their numbers, and notices.
use Rattle.std.proofs.Common.{ℕ, zero, suc, ◌+◌, ◌<◌, ◌≡◌, Bool, true, false, cond, List, [], ◌∷◌, ◌++◌, nat_eq, Option, Some, None, refl, sym, ap, ◌∙◌, subst, arith, All, slice_get, find, Contains, eq-eqb}
use Rattle.std.specs.Map.{lookup}
use Rattle.std.proofs.lemmas.List.Elements.{All-nil, All-cons, All-head, All-tail, All-append, All-weaker, All-contains_itself}
use Rattle.std.proofs.lemmas.List.Folds.{list_any-from_Any}
use Rattle.brl_table.specs.declared.item.Definition.{Definition}
use Rattle.brl_rules.specs.declared.rule.Info.{Info}
use Rattle.brl_rules.specs.declared.rule.Notice.{Notice}
use Rattle.brl_rules.specs.Limits.{AreNumbered, IsAmong, IsEntry}
use Rattle.brl_table.specs.Reading.{Listed, defined_characters, defined_entries, first_literary, first_uplow, defining_line, defined_info, is_repeated, notice_of, notices_after, with_numbers}
use Rattle.brl_table.specs.ItemLimits.{IsWithinLimits}
use Rattle.brl_table.proofs.NumberedEntries.{there-some}
use Rattle.brl_table.proofs.DefinitionSteps.{known-found, known-listed, plain-known}
use Rattle.brl_table.specs.Building.{is_known}

-- ---- Numbers

-- an entry's number is its place, counted from the first number on
numbered-at : (defined : List Definition) (listed : Listed) (cs : List ℕ) (n place : ℕ) (entry : ℕ × Info) → slice_get (with_numbers (defined_info defined listed) n cs) place ≡ Some entry → entry.1.number ≡ n + place
numbered-at defined listed [] n place entry h = cc
numbered-at defined listed (c ∷ cs) n zero entry h =
    let e : (c, defined_info defined listed n c) ≡ entry = cc in
    sym (ap (λ (x : ℕ × Info). x.1.number) e) ∙ omega arith
numbered-at defined listed (c ∷ cs) n (suc place) entry h = omega (arith, numbered-at defined listed cs (n + 1) place entry h)

pub numbered-entries : (defined : List Definition) (listed : Listed) (es : List (ℕ × Info)) → es ≡ defined_entries defined listed → AreNumbered es
numbered-entries defined listed es h place entry there =
    numbered-at defined listed (defined_characters defined) 0 place entry (ap (λ (es : List (ℕ × Info)). slice_get es place) (sym h) ∙ there) ∙ omega arith

-- ---- Entries

-- an element that is found has what all elements have
found-one : {X : Type 0} (P : X → Type 0) (p : X → Bool) (xs : List X) (x : X) → All P xs → find p xs ≡ Some x → P x
found-one P p [] x all h = cc
found-one {X} P p (y ∷ ys) x all h = cases (p y) h (found-one P p ys x (All-tail P y ys all))
  where
    cases : (b : Bool) → cond b (Some y) (find p ys) ≡ Some x → (find p ys ≡ Some x → P x) → P x
    cases true k more = let s : y ≡ x = cc (k) in subst P s (All-head P y ys all)
    cases false k more = more k

-- what holds of the info of each character, whatever its number
All-numbered : (defined : List Definition) (listed : Listed) (P : Info → Type 0) (cs : List ℕ) → All (λ c. (n : ℕ) → P (defined_info defined listed n c)) cs → (n : ℕ)
    → All (λ entry. P entry.1) (with_numbers (defined_info defined listed) n cs)
All-numbered defined listed P [] h n = All-nil (λ entry. P entry.1)
All-numbered defined listed P (c ∷ cs) h n =
    let R : ℕ → Type 0 = λ c. (n : ℕ) → P (defined_info defined listed n c) in
    All-cons (λ entry. P entry.1) (c, defined_info defined listed n c) (with_numbers (defined_info defined listed) (n + 1) cs) (All-head R c cs h n)
    (All-numbered defined listed P cs (All-tail R c cs h) (n + 1))

module _ (files : ℕ) (defined : List Definition) (listed : Listed) (limits : All (IsWithinLimits files) defined) (folds : All (λ d. is_known defined d.fold ≡ true) defined) where
  -- a known character has an entry
  among : (c : ℕ) → is_known defined c ≡ true → IsAmong (defined_entries defined listed) c
  among c h = there-some (lookup (nat_eq c) (defined_entries defined listed)) ∙ known-found defined listed c ∙ h

  -- a known character has a line that gives it its cells
  has_defining : (c : ℕ) → is_known defined c ≡ true → (d : Definition) × (defining_line defined c ≡ Some d) × IsWithinLimits files d
  has_defining c h = by_literary (first_literary defined c) refl
    where
      by_literary : (literary : Option Definition) → first_literary defined c ≡ literary → (d : Definition) × (defining_line defined c ≡ Some d) × IsWithinLimits files d
      by_literary (Some d) e = (d, rw e refl, found-one (IsWithinLimits files) _ defined d limits e)
      by_literary None e =
          let plain = plain-known defined c h e in
          (plain.0, rw (e, plain.1) refl, found-one (IsWithinLimits files) _ defined plain.0 limits plain.1)

  entry-valid : (n c : ℕ) → is_known defined c ≡ true → IsEntry (defined_entries defined listed) files (defined_info defined listed n c)
  entry-valid n c h =
      let gives = has_defining c h in
      record {
        some_cells = rw gives.1 gives.2.some_cells;
        few_cells = rw gives.1 gives.2.few_cells;
        fold_defined = by_uplow (first_uplow defined c) refl;
        file_named = rw gives.1 gives.2.file_named;
      }
    where
      by_uplow : (uplow : Option Definition) → first_uplow defined c ≡ uplow → IsAmong (defined_entries defined listed) (defined_info defined listed n c).fold
      by_uplow (Some d) e = rw e (among d.fold (found-one (λ d. is_known defined d.fold ≡ true) _ defined d folds e))
      by_uplow None e = rw e (among c h)

  all-known : All (λ c. is_known defined c ≡ true) (defined_characters defined)
  all-known =
      let cs = defined_characters defined in
      All-weaker (Contains cs) (λ c. is_known defined c ≡ true)
      (λ c h. sym (known-listed defined c) ∙ list_any-from_Any (nat_eq c) cs (h.0, c, h.1, h.2, eq-eqb c c refl)) cs (All-contains_itself cs)

  pub entries-valid : (es : List (ℕ × Info)) → es ≡ defined_entries defined listed → All (λ entry. IsEntry es files entry.1) es
  entries-valid es e =
      subst (λ (es : List (ℕ × Info)). All (λ entry. IsEntry es files entry.1) es) (sym e)
      (All-numbered defined listed (IsEntry (defined_entries defined listed) files) (defined_characters defined)
      (λ k d within n. entry-valid n _ (all-known k d within)) 0)

-- ---- Notices

notices-named : (files : ℕ) (defined earlier : List Definition) → All (IsWithinLimits files) defined → All (λ notice. notice.file < files) (notices_after earlier defined)
notices-named files [] earlier limits = All-nil (λ notice. notice.file < files)
notices-named files (d ∷ defined) earlier limits =
    All-append (λ notice. notice.file < files) _ _ (cases (is_repeated earlier d)) (notices-named files defined (earlier ++ d ∷ []) (All-tail (IsWithinLimits files) d defined limits))
  where
    named : (notice_of d).file < files
    named = (All-head (IsWithinLimits files) d defined limits).file_named

    cases : (b : Bool) → All (λ notice. notice.file < files) (cond b (notice_of d ∷ []) [])
    cases true = All-cons (λ notice. notice.file < files) (notice_of d) [] named (All-nil (λ notice. notice.file < files))
    cases false = All-nil (λ notice. notice.file < files)

pub notices-valid : (files : ℕ) (defined : List Definition) (notices : List Notice) → notices ≡ notices_after [] defined → All (IsWithinLimits files) defined → All (λ notice. notice.file < files) notices
notices-valid files defined notices e limits = subst (All (λ notice. notice.file < files)) (sym e) (notices-named files defined [] limits)
