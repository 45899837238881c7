-- One more line of the first pass.
use Rattle.std.proofs.Common.{ℕ, zero, suc, ◌+◌, ◌<◌, ◌≡◌, Bool, true, false, ◌||◌, cond, ◌⊎◌, inl, inr, List, [], ◌∷◌, ◌++◌, length, map, fold, take, refl, arith, sym, ◌∙◌, ap, subst, Option, Some, None, Result, Ok, get_or, String, position, string_bytes, slice_get, unwrap_or, All, IsSome, option_map, Global, bytes_eq}
use Rattle.std.proofs.lemmas.Option.{slice_get-map, slice_get-get_or, get_or_from_slice_get}
use Rattle.std.proofs.lemmas.Slice.Eq.{bytes_eq-Decides}
use Rattle.std.specs.List.{list_any, position_from}
use Rattle.std.proofs.lemmas.List.{map-append, take_more, length-map}
use Rattle.std.proofs.lemmas.Iterator.Adapters.{position_from-zero}
use Rattle.brl_lines.specs.Tokens.{LineView}
use Rattle.brl_lines.specs.Views.{line_view}
use Rattle.brl_lines.specs.declared.line.Line.{Line}
use Rattle.brl_table.specs.declared.characters.Characters.{Characters}
use Rattle.brl_table.specs.declared.item.Definition.{Definition}
use Rattle.brl_table.specs.declared.item.Item.{Item}
use Rattle.brl_table.specs.declared.item.Item.TheVariants.{Defines, DefinesBoth, Rules, Indicates, Lists, Nothing}
use Rattle.brl_failure.specs.Failure.{IfFault}
use Rattle.brl_failure.specs.declared.failure.Failure.{Failure}
use Rattle.brl_failure.specs.declared.failure.Failure.TheVariants as failures
use Rattle.brl_table.specs.Items.{Fault, item_of}
use Rattle.std.proofs.lemmas.Bool.{cases_order}
use Rattle.std.proofs.lemmas.List.Elements.{All-push}
use Rattle.brl_table.specs.Faults.{IsAt, IsFirstFaultOf, IsFirstFault, fault_after, first_pass_fault, repeats_indicator, PassesBefore}
use Rattle.brl_table.specs.Reading.{item_in, items_of, ok_of, file_number, files_of, file_place, insert_new}
use Rattle.brl_table.specs.declared.table_fault.TableFault.{TableFault}
use Rattle.brl_table.specs.ItemLimits.{IsWithinLimits, IsItemWithinLimits}
use Rattle.brl_table.specs.Building.{AreWithinLimits, Represents}
use Rattle.brl_table.proofs.ItemSteps.{fault-none}
use Rattle.brl_rules.proofs.Facts.{some_is}

-- ---- the number of a file

number-from : (n : ℕ) (path : List ℕ) (files : List (String Global)) → position_from (bytes_eq path) n (map string_bytes files) ≡ position_from (λ other. bytes_eq path (string_bytes other)) n files
number-from n path [] = refl
number-from n path (x ∷ files) = ap (cond (bytes_eq path (string_bytes x)) (Some n)) (number-from (n + 1) path files)

pub number-of : (path : List ℕ) (names : List (String Global)) (files : List (List ℕ)) (found : Option ℕ) (number : ℕ) → map string_bytes names ≡ files
    → found ≡ position (λ other. bytes_eq path (string_bytes other)) names → found ≡ Some number → number ≡ file_number files path
number-of path names files found number e f s =
    let same : file_place (map string_bytes names) path ≡ position (λ other. bytes_eq path (string_bytes other)) names =
    position_from-zero (bytes_eq path) (map string_bytes names) ∙ number-from 0 path names ∙ sym (position_from-zero (λ other. bytes_eq path (string_bytes other)) names) in
    ap (λ o. unwrap_or o 0) (sym s ∙ f ∙ sym same) ∙ ap (λ fs. unwrap_or (file_place fs path) 0) e

-- ---- a file of some lines is among theirs

module _ {X : Type 0} (eq : X → X → Bool) (same : (x : X) → eq x x ≡ true) where
  any-put-same : (xs : List X) (x : X) → list_any (eq x) (insert_new eq xs x) ≡ true
  any-put-same [] x = rw (same x) refl
  any-put-same (y ∷ ys) x = cases (eq x y) refl (any-put-same ys x)
    where
      cases : (b : Bool) → eq x y ≡ b → list_any (eq x) (insert_new eq ys x) ≡ true → list_any (eq x) (cond b (y ∷ ys) (y ∷ insert_new eq ys x)) ≡ true
      cases true e more = rw e refl
      cases false e more = rw e more

  any-put-kept : (p : X → Bool) (xs : List X) (x : X) → list_any p xs ≡ true → list_any p (insert_new eq xs x) ≡ true
  any-put-kept p [] x h = cc
  any-put-kept p (y ∷ ys) x h = cases (eq x y) (p y) refl h (any-put-kept p ys x)
    where
      cases : (b c : Bool) → p y ≡ c → c || list_any p ys ≡ true → (list_any p ys ≡ true → list_any p (insert_new eq ys x) ≡ true) → list_any p (cond b (y ∷ ys) (y ∷ insert_new eq ys x)) ≡ true
      cases true c e k more = rw e k
      cases false true e k more = rw e refl
      cases false false e k more = rw e (more k)

  any-fold-kept : (p : X → Bool) (zs xs : List X) → list_any p xs ≡ true → list_any p (fold (insert_new eq) xs zs) ≡ true
  any-fold-kept p [] xs h = h
  any-fold-kept p (z ∷ zs) xs h = any-fold-kept p zs (insert_new eq xs z) (any-put-kept p xs z h)

  pub any-once : (zs xs : List X) (i : ℕ) (x : X) → slice_get zs i ≡ Some x → list_any (eq x) (fold (insert_new eq) xs zs) ≡ true
  any-once [] xs i x h = cc
  any-once (z ∷ zs) xs zero x h = any-fold-kept (eq x) zs (insert_new eq xs z) (rw (some_is z x h) (any-put-same xs x))
  any-once (z ∷ zs) xs (suc i) x h = any-once zs (insert_new eq xs z) i x h

-- ---- the items of lines

same_head : {X : Type 0} (x y : X) (xs ys : List X) → x ∷ xs ≡ y ∷ ys → x ≡ y
same_head x y xs ys e = cc

same_tail : {X : Type 0} (x y : X) (xs ys : List X) → x ∷ xs ≡ y ∷ ys → xs ≡ ys
same_tail x y xs ys e = cc

-- the items are those of the lines, one for each
pub aligned-items : (files : List (List ℕ)) (lines : List LineView) (items : List Item) → map Ok items ≡ map (item_in files) lines → items_of files lines ≡ items
aligned-items files [] [] h = refl
aligned-items files [] (item ∷ items) h = cc
aligned-items files (line ∷ lines) [] h = cc
aligned-items files (line ∷ lines) (item ∷ items) h =
    let first : item_in files line ≡ Ok item = sym (same_head (Ok item) (item_in files line) (map Ok items) (map (item_in files) lines) h) in
    let more = aligned-items files lines items (same_tail (Ok item) (item_in files line) (map Ok items) (map (item_in files) lines) h) in
    ap (λ r. ok_of r ++ items_of files lines) first ∙ ap (λ xs. item ∷ xs) more

-- limits with the number of one file hold with that of all files
limits-widened : (files : ℕ) {file : ℕ} (d : Definition) → file < files → IsWithinLimits (file + 1) d → IsWithinLimits files d
limits-widened files d within limits =
    record { some_cells = limits.some_cells; few_cells = limits.few_cells; file_named = omega (arith, limits.file_named, within) }

limits-among : (files : ℕ) {file : ℕ} (item : Item) → file < files → IsItemWithinLimits (file + 1) item → IsItemWithinLimits files item
limits-among files (Defines d) within limits = record { limits = limits-widened files d within limits.limits; own_fold = limits.own_fold }
limits-among files (DefinesBoth upper lower) within limits = record {
  upper_limits = limits-widened files upper within limits.upper_limits;
  lower_limits = limits-widened files lower within limits.lower_limits;
  upper_fold = limits.upper_fold;
  lower_fold = limits.lower_fold;
}
limits-among files (Rules r) within limits = record {
  some_characters = limits.some_characters;
  few_characters = limits.few_characters;
  some_cells = limits.some_cells;
  few_cells = limits.few_cells;
  file_named = omega (arith, limits.file_named, within);
}
limits-among files (Indicates sign cells) within limits = limits
limits-among files (Lists l) within limits = tt
limits-among files Nothing within limits = tt

-- ---- one line

any-view : {X Y : Type 0} (p : Y → Bool) (f : X → Y) (xs : List X) → list_any p (map f xs) ≡ list_any (λ x. p (f x)) xs
any-view p f [] = refl
any-view p f (x ∷ xs) = ap (λ b. p (f x) || b) (any-view p f xs)

some-from : {X : Type 0} (p : X → Bool) (n : ℕ) (xs : List X) → list_any p xs ≡ true → IsSome (position_from p n xs)
some-from p n [] h = cc
some-from p n (x ∷ xs) h = cases (p x) h (some-from p (n + 1) xs)
  where
    cases : (b : Bool) → b || list_any p xs ≡ true → (list_any p xs ≡ true → IsSome (position_from p (n + 1) xs)) → IsSome (cond b (Some n) (position_from p (n + 1) xs))
    cases true k more = refl
    cases false k more = more k

same-bytes : (x : List ℕ) → bytes_eq x x ≡ true
same-bytes x = (bytes_eq-Decides x x).1 refl

module _ (lines : List Line) (names : List (String Global)) (named : map string_bytes names ≡ files_of (map line_view lines)) (i : ℕ) (line : Line) (within : i < length lines) (is : line ≡ get_or lines i line) where
  pub there : slice_get (map line_view lines) i ≡ Some (line_view line)
  there = slice_get-map line_view lines i ∙ ap (option_map line_view) (slice_get-get_or lines i line within ∙ ap Some (sym is))

  pub has_file : (found : Option ℕ) → found ≡ position (λ other. bytes_eq line.file.now (string_bytes other)) names → IsSome found
  has_file found e =
      let path = line.file.now in
      let in_lines : slice_get (map (λ l. l.file) (map line_view lines)) i ≡ Some path = slice_get-map (λ l. l.file) (map line_view lines) i ∙ ap (option_map (λ l. l.file)) there in
      let among : list_any (bytes_eq path) (files_of (map line_view lines)) ≡ true = any-once bytes_eq same-bytes (map (λ l. l.file) (map line_view lines)) [] i path in_lines in
      let listed : list_any (λ other. bytes_eq path (string_bytes other)) names ≡ true = sym (any-view (bytes_eq path) string_bytes names) ∙ ap (list_any (bytes_eq path)) named ∙ among in
      let some = some-from (λ other. bytes_eq path (string_bytes other)) 0 names listed in
      let P : Option ℕ → Type 0 = λ o. IsSome o in
      subst P (sym (position_from-zero (λ other. bytes_eq path (string_bytes other)) names) ∙ sym e) some

  -- the line is read with the number that is found for its file
  pub reads : (found : Option ℕ) (file : ℕ) → found ≡ position (λ other. bytes_eq line.file.now (string_bytes other)) names → found ≡ Some file
      → item_of file (line_view line) ≡ item_in (files_of (map line_view lines)) (line_view line)
  reads found file e f = ap (λ k. item_of k (line_view line)) (number-of line.file.now names (files_of (map line_view lines)) found file named e f)

  module _ (file : ℕ) (found : file ≡ file_number (files_of (map line_view lines)) line.file.now) where
    says : item_of file (line_view line) ≡ item_in (files_of (map line_view lines)) (line_view line)
    says = ap (λ k. item_of k (line_view line)) found

    view-is : (other : LineView) → slice_get (map line_view lines) i ≡ Some other → other ≡ line_view line
    view-is other h = some_is other (line_view line) (sym h ∙ there)

    taken : take (i + 1) (map line_view lines) ≡ take i (map line_view lines) ++ line_view line ∷ []
    taken =
        let inside : i < length (map line_view lines) = omega (arith, length-map lines line_view) in
        take_more (map line_view lines) i (line_view line) inside
        ∙ ap (λ l. take i (map line_view lines) ++ l ∷ []) (get_or_from_slice_get (map line_view lines) i (line_view line) (line_view line) there)

    module _ (items : List Item) (aligned : map Ok items ≡ map (item_in (files_of (map line_view lines))) (take i (map line_view lines))) where
      -- the fault of the line, after the items of the lines before it
      fault-here : (want : Result Item Fault) → want ≡ item_in (files_of (map line_view lines)) (line_view line)
          → first_pass_fault (map line_view lines) i (line_view line) ≡ fault_after items (line_view line) want
      fault-here want e =
          ap (λ before. fault_after before (line_view line) (item_in (files_of (map line_view lines)) (line_view line))) (aligned-items (files_of (map line_view lines)) (take i (map line_view lines)) items aligned)
          ∙ ap (fault_after items (line_view line)) (sym e)

      -- the items with that of the next line
      pub aligned-more : (item : Item) (after : List Item) → item_of file (line_view line) ≡ Ok item → after ≡ items ++ item ∷ []
          → map Ok after ≡ map (item_in (files_of (map line_view lines))) (take (i + 1) (map line_view lines))
      aligned-more item after h e =
          let F = files_of (map line_view lines) in
          ap (map Ok) e ∙ map-append Ok items (item ∷ []) ∙ ap (λ xs. xs ++ Ok item ∷ []) aligned
          ∙ ap (λ r. map (item_in F) (take i (map line_view lines)) ++ r ∷ []) (sym h ∙ says)
          ∙ sym (map-append (item_in F) (take i (map line_view lines)) (line_view line ∷ [])) ∙ ap (map (item_in F)) (sym taken)

      -- the next line has no fault
      pub passes-more : (item : Item) (characters : Characters) (signs : List (List ℕ)) (used : ℕ) → item_of file (line_view line) ≡ Ok item → repeats_indicator items item ≡ false
          → Represents (items ++ item ∷ []) characters signs used → AreWithinLimits characters signs used
          → PassesBefore (first_pass_fault (map line_view lines)) (map line_view lines) i → PassesBefore (first_pass_fault (map line_view lines)) (map line_view lines) (i + 1)
      passes-more item characters signs used h once represents within before place other lower at = by_place (cases_order place i)
        where
          here : (other : LineView) → other ≡ line_view line → first_pass_fault (map line_view lines) i other ≡ None
          here other e =
              ap (first_pass_fault (map line_view lines) i) e ∙ fault-here (Ok item) (sym h ∙ says)
              ∙ fault-none items (line_view line) item once characters signs used represents within.few_characters within.few_rules

          by_place : (place ≡ i) ⊎ ((place < i) ⊎ (i < place)) → first_pass_fault (map line_view lines) place other ≡ None
          by_place (inl e) =
              let P : ℕ → Type 0 = λ k. slice_get (map line_view lines) k ≡ Some other in
              ap (λ k. first_pass_fault (map line_view lines) k other) e ∙ here other (view-is other (subst P e at))
          by_place (inr (inl less)) = before place other less at
          by_place (inr (inr more)) = absurd (omega (arith, more, lower))

      -- the next line is the first that has a fault
      pub first-fault : (wrong : Fault) → fault_after items (line_view line) (item_of file (line_view line)) ≡ Some wrong
          → PassesBefore (first_pass_fault (map line_view lines)) (map line_view lines) i → IsFirstFault (map line_view lines) i (line_view line) wrong
      first-fault wrong h passed = inl (record {
        there = there;
        faulty = fault-here (item_of file (line_view line)) says ∙ h;
        passed = passed;
      })

    pub limits-more : (items after : List Item) (item : Item) → file < length (files_of (map line_view lines)) → IsItemWithinLimits (file + 1) item → after ≡ items ++ item ∷ []
        → All (IsItemWithinLimits (length (files_of (map line_view lines)))) items → All (IsItemWithinLimits (length (files_of (map line_view lines)))) after
    limits-more items after item within limits e all =
        let n = length (files_of (map line_view lines)) in
        let P : List Item → Type 0 = λ xs. All (IsItemWithinLimits n) xs in
        subst P (sym e) (All-push (IsItemWithinLimits n) items item all (limits-among n item within limits))

-- the first fault of the first pass, with the file and number of its line
pub refusal : (lines : List LineView) (place : ℕ) (view : LineView) (failure : Failure Fault) (reported : Failure TableFault)
    → IfFault (IsFirstFault lines place view) failure → IsAt view failure reported → IfFault (IsFirstFaultOf lines) reported
refusal lines place view failure failures.Memory first at = tt
refusal lines place view failures.Memory (failures.Fault found) first at = absurd at
refusal lines place view (failures.Fault wrong) (failures.Fault found) first at =
    (place, view, subst (IsFirstFault lines place view) (sym at.0) first, at.1, at.2)

from-within : {X : Type 0} (p : X → Bool) (n : ℕ) (xs : List X) (i : ℕ) → position_from p n xs ≡ Some i → i < n + length xs
from-within p n [] i h = cc
from-within p n (x ∷ xs) i h = cases (p x) h (from-within p (n + 1) xs i)
  where
    cases : (b : Bool) → cond b (Some n) (position_from p (n + 1) xs) ≡ Some i → (position_from p (n + 1) xs ≡ Some i → i < n + 1 + length xs) → i < n + suc (length xs)
    cases true k more = let e : n ≡ i = some_is n i k in omega (arith, e)
    cases false k more = let m = more k in omega (arith, m)

pub number-within : (path : List ℕ) (names : List (String Global)) (files : List (List ℕ)) (found : Option ℕ) (number : ℕ) → map string_bytes names ≡ files
    → found ≡ position (λ other. bytes_eq path (string_bytes other)) names → found ≡ Some number → number < length files
number-within path names files found number e f s =
    let within = from-within (λ other. bytes_eq path (string_bytes other)) 0 names number
    (sym (position_from-zero (λ other. bytes_eq path (string_bytes other)) names) ∙ sym f ∙ s) in
    omega (arith, within, length-map names (string_bytes {Z = Global}), ap length e)
