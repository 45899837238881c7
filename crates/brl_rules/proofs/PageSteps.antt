-- Pages: a new page, a new place, and the places of all characters.
use Rattle.std.proofs.Common.{ℕ, zero, suc, ◌+◌, ◌-◌, ◌*◌, ◌/◌, ◌%◌, ◌<◌, ◌≤◌, ◌≡◌, ◌≢◌, cond, ◌⊎◌, inl, inr, List, [], ◌∷◌, ◌++◌, length, take, replicate, nat_eq, slice_set, refl, arith, sym, ◌∙◌, ap, Option, Some, None, Vec, Global, mod-lt, div-add-mod'}
use Rattle.std.specs.Prelude.{slice_get, slice_index_or, option_map}
use Rattle.std.specs.List.{IsDistinct}
use Rattle.std.specs.Map.{lookup, keys_of}
use Rattle.std.specs.Option.{option_map_or}
use Rattle.std.specs.Cmp.{nat_eq_equiv}
use Rattle.std.proofs.lemmas.Bool.{cases_eq, eq-eqb, ne_eqb}
use Rattle.std.proofs.lemmas.Grind.{get_or-set_at}
use Rattle.std.proofs.lemmas.List.{get_or-replicate, get_or-set_other}
use Rattle.std.proofs.lemmas.Map.Entries.{lookup_from_place, place_from_lookup}
use Rattle.std.proofs.lemmas.Option.{slice_get_past, slice_get_within}
use Rattle.brl_rules.specs.declared.rule.Info.{Info}
use Rattle.brl_rules.proofs.Facts.{same_number, some_is}

-- the items of the page with this number
abbrev pub page_at : List (Vec ℕ Global) → ℕ → List ℕ
page_at pages number = option_map_or (λ page. page.items) (slice_get pages number) []

-- an empty page more is as none
pub page-more : (pages : List (Vec ℕ Global)) (page : Vec ℕ Global) → page.items ≡ [] → (number : ℕ) → page_at (pages ++ page ∷ []) number ≡ page_at pages number
page-more [] page empty zero = empty
page-more [] page empty (suc number) = refl
page-more (p ∷ pages) page empty zero = refl
page-more (p ∷ pages) page empty (suc number) = page-more pages page empty number

-- the other pages stay
pub page-other : (pages : List (Vec ℕ Global)) (i : ℕ) (page : Vec ℕ Global) (number : ℕ) → number ≢ i → page_at (slice_set pages i page) number ≡ page_at pages number
page-other [] i page number differ = refl
page-other (p ∷ pages) zero page zero differ = absurd (differ refl)
page-other (p ∷ pages) zero page (suc number) differ = refl
page-other (p ∷ pages) (suc i) page zero differ = refl
page-other (p ∷ pages) (suc i) page (suc number) differ = page-other pages i page number (λ e. differ (ap (λ n. suc n) e))

pub page-here : (pages : List (Vec ℕ Global)) (i : ℕ) (page : Vec ℕ Global) → i < length pages → page_at (slice_set pages i page) i ≡ page.items
page-here [] i page within = absurd (omega arith)
page-here (p ∷ pages) zero page within = refl
page-here (p ∷ pages) (suc i) page within = page-here pages i page (omega arith)

pub page-was : (pages : List (Vec ℕ Global)) (i : ℕ) (page : Vec ℕ Global) → i < length pages → page ≡ slice_index_or pages i page → page_at pages i ≡ page.items
page-was [] i page within is = absurd (omega arith)
page-was (p ∷ pages) zero page within is = ap (λ (p : Vec ℕ Global). p.items) (sym is)
page-was (p ∷ pages) (suc i) page within is = page-was pages i page (omega arith) is

-- a page that is filled up has the places that it had
filled : (n none : ℕ) (items : List ℕ) (i : ℕ) → i < n → slice_index_or (take n items ++ replicate (n - length items) none) i none ≡ slice_index_or items i none
filled zero none items i within = absurd (omega arith)
filled (suc n) none [] i within =
    let whole : suc n - 0 ≡ suc n = omega arith in
    ap (λ k. slice_index_or (replicate k none) i none) whole ∙ get_or-replicate (suc n) i none none within
filled (suc n) none (x ∷ items) zero within = refl
filled (suc n) none (x ∷ items) (suc i) within =
    let fewer : suc n - suc (length items) ≡ n - length items = omega arith in
    ap (λ k. slice_index_or (take n items ++ replicate k none) i none) fewer ∙ filled n none items i (omega arith)

-- a character is known by its page and its place there
one_code : (c x : ℕ) → c / 256 ≡ x / 256 → c % 256 ≡ x % 256 → c ≡ x
one_code c x page place = sym (div-add-mod' c 256) ∙ ap (λ n. n * 256 + c % 256) page ∙ ap (λ n. x / 256 * 256 + n) place ∙ div-add-mod' x 256

-- one character has another place, and the others have theirs
module _ (pages : List (Vec ℕ Global)) (x place : ℕ) (old new : Vec ℕ Global) (items : List ℕ) (within : x / 256 < length pages) (old-is : old ≡ slice_index_or pages (x / 256) old)
    (items-are : items ≡ take 256 old.items ++ replicate (256 - length old.items) 65535) (long : length items ≡ 256) (new-is : new.items ≡ slice_set items (x % 256) place) where
  abbrev had : ℕ → ℕ
  had c = slice_index_or (page_at pages (c / 256)) (c % 256) 65535

  abbrev has : ℕ → ℕ
  has c = slice_index_or (page_at (slice_set pages (x / 256) new) (c / 256)) (c % 256) 65535

  other : (c : ℕ) → c ≢ x → has c ≡ had c → has c ≡ cond (nat_eq c x) place (had c)
  other c differ is = is ∙ ap (λ b. cond b place (had c)) (sym (ne_eqb c x differ))

  on_page : (c : ℕ) → c / 256 ≡ x / 256 → has c ≡ slice_index_or (slice_set items (x % 256) place) (c % 256) 65535
  on_page c same = ap (λ items. slice_index_or items (c % 256) 65535) (ap (page_at (slice_set pages (x / 256) new)) same ∙ page-here pages (x / 256) new within ∙ new-is)

  was : (c : ℕ) → c / 256 ≡ x / 256 → slice_index_or items (c % 256) 65535 ≡ had c
  was c same =
      ap (λ items. slice_index_or items (c % 256) 65535) items-are ∙ filled 256 65535 old.items (c % 256) (mod-lt c {m = 256} (omega arith))
      ∙ ap (λ items. slice_index_or items (c % 256) 65535) (sym (ap (page_at pages) same ∙ page-was pages (x / 256) old within old-is))

  pub place-set : (c : ℕ) → has c ≡ cond (nat_eq c x) place (had c)
  place-set c = by_page (cases_eq (c / 256) (x / 256)) (cases_eq (c % 256) (x % 256))
    where
      by_page : (c / 256 ≡ x / 256) ⊎ (c / 256 ≢ x / 256) → (c % 256 ≡ x % 256) ⊎ (c % 256 ≢ x % 256) → has c ≡ cond (nat_eq c x) place (had c)
      by_page (inl page) (inl same) =
          let there : x % 256 < length items = omega (arith, long, mod-lt x {m = 256} (omega arith)) in
          on_page c page ∙ get_or-set_at items (x % 256) (c % 256) place 65535 same there
          ∙ ap (λ b. cond b place (had c)) (sym (eq-eqb c x (one_code c x page same)))
      by_page (inl page) (inr differ) =
          other c (λ e. differ (ap (λ c. c % 256) e)) (on_page c page ∙ get_or-set_other items (x % 256) (c % 256) place 65535 differ ∙ was c page)
      by_page (inr differ) place-is =
          other c (λ e. differ (ap (λ c. c / 256) e)) (ap (λ items. slice_index_or items (c % 256) 65535) (page-other pages (x / 256) new (c / 256) differ))

-- ---- all characters

-- after the first of these characters have their places, one has its place or isn't among them
abbrev pub IsPlaced : List (ℕ × Info) → ℕ → ℕ → ℕ → Type 0
IsPlaced entries count c place =
    ((v : Info) × (slice_get entries place ≡ Some (c, v)))
    ⊎ ((place ≡ 65535) × ((k : ℕ) (entry : ℕ × Info) → k < count → slice_get entries k ≡ Some entry → entry.0 ≢ c))

-- one more character has its place
pub placed-more : (entries : List (ℕ × Info)) (count : ℕ) (x : ℕ) (v : Info) → slice_get entries count ≡ Some (x, v) → (c place : ℕ) → IsPlaced entries count c place
    → IsPlaced entries (count + 1) c (cond (nat_eq c x) count place)
placed-more entries count x v there c place placed = by_code (cases_eq c x)
  where
    others : c ≢ x → ((k : ℕ) (entry : ℕ × Info) → k < count → slice_get entries k ≡ Some entry → entry.0 ≢ c)
        → (k : ℕ) (entry : ℕ × Info) → k < count + 1 → slice_get entries k ≡ Some entry → entry.0 ≢ c
    others differ before k entry within is = by_place (cases_eq k count)
      where
        by_place : (k ≡ count) ⊎ (k ≢ count) → entry.0 ≢ c
        by_place (inl same) = λ e. differ (sym e ∙ ap (λ (entry : ℕ × Info). entry.0) (some_is entry (x, v) (sym is ∙ ap (slice_get entries) same ∙ there)))
        by_place (inr other) = before k entry (omega (arith, within, other)) is

    by_code : (c ≡ x) ⊎ (c ≢ x) → IsPlaced entries (count + 1) c (cond (nat_eq c x) count place)
    by_code (inl same) = rw (eq-eqb c x same) (inl (v, there ∙ ap (λ c. Some (c, v)) (sym same)))
    by_code (inr differ) = rw (ne_eqb c x differ) (keep placed)
      where
        keep : IsPlaced entries count c place → IsPlaced entries (count + 1) c place
        keep (inl found) = inl found
        keep (inr none) = inr (none.0, others differ none.1)

-- after all of them have, each is found
pub found-placed : (entries : List (ℕ × Info)) → IsDistinct nat_eq (keys_of entries) → length entries ≤ 1024 → (count : ℕ) → length entries ≤ count → (c place : ℕ) → IsPlaced entries count c place
    → option_map (λ (entry : ℕ × Info). entry.1) (slice_get entries place) ≡ lookup (nat_eq c) entries
found-placed entries distinct few count all c place (inl found) =
    ap (option_map (λ (entry : ℕ × Info). entry.1)) found.1 ∙ sym (lookup_from_place nat_eq_equiv entries place c found.0 distinct found.1)
found-placed entries distinct few count all c place (inr none) =
    ap (option_map (λ (entry : ℕ × Info). entry.1)) (ap (slice_get entries) none.0 ∙ slice_get_past entries 65535 (omega (arith, few))) ∙ sym (missing (lookup (nat_eq c) entries) refl)
  where
    missing : (found : Option Info) → lookup (nat_eq c) entries ≡ found → found ≡ None
    missing None e = refl
    missing (Some v) e =
        let at = place_from_lookup (nat_eq c) entries v e in
        absurd (none.1 at.0 (at.1, v) (omega (arith, slice_get_within entries at.0 (at.1, v) at.2, all)) at.2 (sym (same_number c at.1 at.3)))
