-- One more opcode in a tally, and the counts of a tally in order.
use Rattle.std.proofs.Common.{ℕ, ◌+◌, ◌<◌, ◌≤◌, ◌≡◌, Bool, true, false, ◌||◌, cond, List, [], ◌∷◌, ◌++◌, get_or, length, map, string_bytes, take, refl, arith, subst, sym, ap, ◌∙◌, Option, Some, Bor, length-take, unwrap_or, IsPermutation, IsSortedBy, is_lt, bytes_eq, Ordering}
use Rattle.std.specs.Cmp.{IsStrictWeakOrder, IsTotalOrder}
use Rattle.std.specs.Cmp.Lexicographic.{bytes_decides, nat_list_eq_equiv}
use Rattle.std.specs.Fn.{Called, ComparesAs}
use Rattle.std.specs.List.{count_by, list_any}
use Rattle.std.specs.Map.{update}
use Rattle.std.proofs.lemmas.Cmp.{back_total, nat_cmp_total, nat_list_cmp_total, on_total, then_total}
use Rattle.std.proofs.lemmas.Simd.{map-map}
use Rattle.std.proofs.lemmas.List.{length-map, map-append, take_more}
use Rattle.std.proofs.lemmas.List.Sorted.{answers_always, ranks_by}
use Rattle.std.proofs.lemmas.List.Sums.{fold-append, sum_by-cons, sum_by_push}
use denote.Param.Members.{Mut}
use Rattle.brl_table.specs.Reading.{dedup, insert_new}
use Rattle.brl_table.specs.Survey.{faulty_line_view}
use Rattle.brl_table.specs.declared.faulty.FaultyLine.{FaultyLine}
use Rattle.brl_report.specs.Survey.{AreCounts, CountView, count_among, count_cmp, opcodes_of, tally}
use Rattle.brl_table.proofs.Inserting.{any-fold, put-known, put-new}

-- ---- Whether an opcode came before

same-as : (c x y : List ℕ) → bytes_eq x y ≡ true → bytes_eq c y ≡ bytes_eq c x
same-as c x y h = ap (bytes_eq c) (sym ((bytes_decides x y).0 h))

any-dedup : (c : List ℕ) (xs : List (List ℕ)) → list_any (bytes_eq c) (dedup bytes_eq xs) ≡ list_any (bytes_eq c) xs
any-dedup c xs = any-fold bytes_eq same-as c xs []

none-counted : (p : List ℕ → Bool) (xs : List (List ℕ)) → count_by p xs ≡ 0 → list_any p xs ≡ false
none-counted p [] h = refl
none-counted p (x ∷ xs) h = cases (p x) (sym (sum_by-cons (λ y. cond (p y) 1 0) x xs) ∙ h) (none-counted p xs)
  where
    cases : (b : Bool) → cond b 1 0 + count_by p xs ≡ 0 → (count_by p xs ≡ 0 → list_any p xs ≡ false) → b || list_any p xs ≡ false
    cases true k more = absurd (omega arith)
    cases false k more = more (omega (arith, k))

some-counted : (p : List ℕ → Bool) (xs : List (List ℕ)) → (count_by p xs ≡ 0 → ⊥) → list_any p xs ≡ true
some-counted p [] h = absurd (h refl)
some-counted p (x ∷ xs) h = cases (p x) (λ none. h (sum_by-cons (λ y. cond (p y) 1 0) x xs ∙ none)) (some-counted p xs)
  where
    cases : (b : Bool) → (cond b 1 0 + count_by p xs ≡ 0 → ⊥) → ((count_by p xs ≡ 0 → ⊥) → list_any p xs ≡ true) → b || list_any p xs ≡ true
    cases true k more = refl
    cases false k more = more (λ none. k (let e : 0 + count_by p xs ≡ 0 = omega (arith, none) in e))

-- ---- One more opcode

module _ (opcodes : List (List ℕ)) (opcode : List ℕ) where
  dedup-more : dedup bytes_eq (opcodes ++ opcode ∷ []) ≡ insert_new bytes_eq (dedup bytes_eq opcodes) opcode
  dedup-more = fold-append (insert_new bytes_eq) [] opcodes (opcode ∷ [])

  pub names-known : (count_by (bytes_eq opcode) opcodes ≡ 0 → ⊥) → dedup bytes_eq (opcodes ++ opcode ∷ []) ≡ dedup bytes_eq opcodes
  names-known some = dedup-more ∙ put-known bytes_eq opcode (dedup bytes_eq opcodes) (any-dedup opcode opcodes ∙ some-counted (bytes_eq opcode) opcodes some)

  pub names-new : count_by (bytes_eq opcode) opcodes ≡ 0 → dedup bytes_eq (opcodes ++ opcode ∷ []) ≡ dedup bytes_eq opcodes ++ opcode ∷ []
  names-new none = dedup-more ∙ put-new bytes_eq opcode (dedup bytes_eq opcodes) (any-dedup opcode opcodes ∙ none-counted (bytes_eq opcode) opcodes none)

  pub numbers-more : (old new : List ℕ → Option ℕ) (number : ℕ) → number ≡ count_by (bytes_eq opcode) opcodes
      → ((name : List ℕ) → new name ≡ update bytes_eq old opcode (Some (number + 1)) name) → ((name : List ℕ) → unwrap_or (old name) 0 ≡ count_by (bytes_eq name) opcodes)
      → (name : List ℕ) → unwrap_or (new name) 0 ≡ count_by (bytes_eq name) (opcodes ++ opcode ∷ [])
  numbers-more old new number counted sets before name =
      ap (λ o. unwrap_or o 0) (sets name) ∙ cases (bytes_eq opcode name) refl ∙ sym (sum_by_push (λ other. cond (bytes_eq name other) 1 0) opcodes opcode)
    where
      cases : (b : Bool) → bytes_eq opcode name ≡ b → unwrap_or (cond b (Some (number + 1)) (old name)) 0 ≡ count_by (bytes_eq name) opcodes + cond (bytes_eq name opcode) 1 0
      cases true same =
          let e = ap (λ word. count_by (bytes_eq word) opcodes) ((bytes_decides opcode name).0 same) in
          rw (nat_list_eq_equiv.symm name opcode, same) (omega (arith, counted, e))
      cases false differs = rw (nat_list_eq_equiv.symm name opcode, differs) (omega (arith, before name))

-- the opcodes up to the next faulty line
pub opcodes-more : (found : List FaultyLine) (i : ℕ) (faulty : FaultyLine) (opcode : List ℕ) → i < length found → faulty ≡ get_or found i faulty → opcode ≡ string_bytes faulty.opcode
    → opcodes_of (map faulty_line_view (take (i + 1) found)) ≡ opcodes_of (map faulty_line_view (take i found)) ++ opcode ∷ []
opcodes-more found i faulty opcode within is named =
    ap (λ fs. opcodes_of (map faulty_line_view fs)) (take_more found i faulty within ∙ ap (λ f. take i found ++ f ∷ []) (sym is))
    ∙ ap opcodes_of (map-append faulty_line_view (take i found) (faulty ∷ [])) ∙ map-append (λ f. f.opcode) (map faulty_line_view (take i found)) (faulty_line_view faulty ∷ [])
    ∙ ap (λ word. opcodes_of (map faulty_line_view (take i found)) ++ word ∷ []) (sym named)

pub few-opcodes : (found : List FaultyLine) (i : ℕ) → length (opcodes_of (map faulty_line_view (take i found))) ≤ i
few-opcodes found i =
    let all : length (opcodes_of (map faulty_line_view (take i found))) ≡ length (take i found) =
    length-map (map faulty_line_view (take i found)) (λ f. f.opcode) ∙ length-map (take i found) faulty_line_view in
    omega (arith, all, length-take i found)

-- one more count
pub counts-more : (opcodes : List (List ℕ)) (names : List (Bor (List ℕ))) (i : ℕ) (d : Bor (List ℕ)) (counts after : List CountView) (text : List ℕ) (lines : ℕ) → i < length names
    → counts ≡ map (λ name. count_among opcodes name.now) (take i names) → text ≡ (get_or names i d).now → lines ≡ count_by (bytes_eq (get_or names i d).now) opcodes
    → after ≡ counts ++ (record { opcode = text; lines = lines }) ∷ [] → after ≡ map (λ name. count_among opcodes name.now) (take (i + 1) names)
counts-more opcodes names i d counts after text lines within so_far named counted added =
    let count = λ (name : Bor (List ℕ)). count_among opcodes name.now in
    let new : CountView = record { opcode = text; lines = lines } in
    let same : new ≡ count_among opcodes (get_or names i d).now = λ j. record { opcode = named j; lines = counted j } in
    added ∙ ap (λ cs. cs ++ new ∷ []) so_far ∙ ap (λ c. map count (take i names) ++ c ∷ []) same
    ∙ sym (ap (map count) (take_more names i d within) ∙ map-append count (take i names) (get_or names i d ∷ []))

-- ---- The counts in order

abbrev ordered : IsTotalOrder count_cmp
ordered = then_total (back_total (on_total (λ count. count.lines) nat_cmp_total)) (on_total (λ count. count.opcode) nat_list_cmp_total)

pub counts-of_sort : {F : Type 0} {g : Mut F (Bor CountView × (Bor CountView × Unit {0})) Ordering} {f : F} (opcodes : List (List ℕ)) (names : List (Bor (List ℕ))) (mid new : List CountView)
    → map (λ name. name.now) names ≡ dedup bytes_eq opcodes → mid ≡ map (λ name. count_among opcodes name.now) names → IsPermutation mid new
    → ((lt : CountView → CountView → Bool) → IsStrictWeakOrder lt → ComparesAs g lt f → IsSortedBy lt new)
    → ((f : F) (a : Bor CountView × (Bor CountView × Unit {0})) (r : Ordering) (f' : F) → Called g f a r f' → r ≡ count_cmp a.0.now a.1.0.now)
    → AreCounts opcodes new
counts-of_sort {F} {g} {f} opcodes names mid new named counted moved sorted compares =
    let all : mid ≡ tally opcodes = counted ∙ sym (map-map (count_among opcodes) (λ (name : Bor (List ℕ)). name.now) names) ∙ ap (map (count_among opcodes)) named in
    let lt = λ (x : CountView) (y : CountView). is_lt (count_cmp x y) in
    let order : IsStrictWeakOrder (λ (x : CountView) (y : CountView). is_lt (count_cmp x y)) = ranks_by ordered (λ (x : CountView). x) in
    let answers : ComparesAs g lt f = answers_always g (λ a r. is_lt r ≡ is_lt (count_cmp a.0.now a.1.0.now)) f (λ h a r k called. ap is_lt (compares h a r k called)) in
    record {
      all = subst (λ (counts : List CountView). IsPermutation counts new) all moved;
      ordered = sorted lt order answers;
    }
