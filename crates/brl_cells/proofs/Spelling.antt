-- Writing cells, one after the other.
use Rattle.std.proofs.Common.{◌≡◌, ℕ, ◌+◌, ◌<◌, Bool, true, false, List, [], ◌∷◌, ◌++◌, length, take, take_all, get_or, subst, ◌≤◌, append_assoc, arith, refl, sym, ap, ◌∙◌, filter}
use Rattle.std.proofs.lemmas.List.{take_more, append-nil, length-take}
use Rattle.brl_cells.specs.Dots.{AreCells, cell_spelling, spelling}
use Rattle.std.proofs.lemmas.List.Elements.{filter-append, All-push}

-- the marks before this place that pass a test were appended to the text
abbrev pub IsFilteredTo : (ℕ → Bool) → List ℕ → ℕ → List ℕ → List ℕ → Type 0
IsFilteredTo test marks place old text = text ≡ old ++ filter test (take place marks)

module _ (test : ℕ → Bool) (marks : List ℕ) (place : ℕ) (old : List ℕ) where
  one_more : place < length marks → filter test (take (place + 1) marks) ≡ filter test (take place marks) ++ filter test (get_or marks place 0 ∷ [])
  one_more lt = ap (filter test) (take_more marks place 0 lt) ∙ filter-append test (take place marks) (get_or marks place 0 ∷ [])

  pub mark_written : (text new mark : List ℕ) → place < length marks → test (get_or marks place 0) ≡ true → IsFilteredTo test marks place old text → new ≡ text ++ mark → mark ≡ get_or marks place 0 ∷ [] → IsFilteredTo test marks (place + 1) old new
  mark_written text new mark lt passes so_far is one =
      let kept : filter test (get_or marks place 0 ∷ []) ≡ get_or marks place 0 ∷ [] = rw passes refl in
      let all : filter test (take (place + 1) marks) ≡ filter test (take place marks) ++ get_or marks place 0 ∷ [] = one_more lt ∙ ap (λ (ms : List ℕ). filter test (take place marks) ++ ms) kept in
      is ∙ ap (λ (ms : List ℕ). text ++ ms) one ∙ ap (λ (ms : List ℕ). ms ++ get_or marks place 0 ∷ []) so_far ∙ append_assoc old (filter test (take place marks)) (get_or marks place 0 ∷ []) ∙ ap (λ (ms : List ℕ). old ++ ms) (sym all)

  pub mark_left_out : (text new : List ℕ) → place < length marks → test (get_or marks place 0) ≡ false → IsFilteredTo test marks place old text → new ≡ text → IsFilteredTo test marks (place + 1) old new
  mark_left_out text new lt fails so_far is =
      let none : filter test (get_or marks place 0 ∷ []) ≡ [] = rw fails refl in
      let all : filter test (take (place + 1) marks) ≡ filter test (take place marks) = one_more lt ∙ ap (λ (ms : List ℕ). filter test (take place marks) ++ ms) none ∙ append-nil (filter test (take place marks)) in
      is ∙ so_far ∙ ap (λ (ms : List ℕ). old ++ ms) (sym all)

-- a hyphen comes between a cell and the cells before it
spelling_push : (cells : List ℕ) (cell : ℕ) → 0 < length cells → spelling (cells ++ cell ∷ []) ≡ spelling cells ++ 45 ∷ cell_spelling cell
spelling_push [] cell some = absurd (omega arith)
spelling_push (first ∷ []) cell some = refl
spelling_push (first ∷ next ∷ cells) cell some =
    ap (λ (bytes : List ℕ). cell_spelling first ++ 45 ∷ bytes) (spelling_push (next ∷ cells) cell (omega arith)) ∙ sym (append_assoc (cell_spelling first) (45 ∷ spelling (next ∷ cells)) (45 ∷ cell_spelling cell))

-- ---- The loop over cells

-- the text spells the cells before this place, and they are cells
pub record WrittenSoFar (cells : List ℕ) (place : ℕ) (text : List ℕ) : Type 0 where
  pub spells : text ≡ spelling (take place cells)
  pub fits : AreCells (take place cells)

module _ (cells : List ℕ) (place cell : ℕ) (text new : List ℕ) (lt : place < length cells) (at : cell ≡ get_or cells place cell) (fits : cell < 256) (so_far : WrittenSoFar cells place text) where
  take_one_more : take (place + 1) cells ≡ take place cells ++ cell ∷ []
  take_one_more = take_more cells place cell lt ∙ ap (λ (c : ℕ). take place cells ++ c ∷ []) (sym at)

  still_fits : AreCells (take (place + 1) cells)
  still_fits = subst AreCells (sym take_one_more) (All-push (λ c. c < 256) (take place cells) cell so_far.fits fits)

  pub first_written : place ≡ 0 → new ≡ text ++ cell_spelling cell → WrittenSoFar cells (place + 1) new
  first_written first is =
      let none : take place cells ≡ [] = rw first refl in
      let empty : text ≡ [] = so_far.spells ∙ ap spelling none in
      let one : take (place + 1) cells ≡ cell ∷ [] = take_one_more ∙ ap (λ (cs : List ℕ). cs ++ cell ∷ []) none in
      record {
        spells = is ∙ ap (λ (bytes : List ℕ). bytes ++ cell_spelling cell) empty ∙ sym (ap spelling one);
        fits = still_fits;
      }

  pub next_written : (joined : List ℕ) → 0 < place → joined ≡ text ++ 45 ∷ [] → new ≡ joined ++ cell_spelling cell → WrittenSoFar cells (place + 1) new
  next_written joined later hyphen is =
      let some : 0 < length (take place cells) = simp length-take (omega arith) in
      let more : spelling (take (place + 1) cells) ≡ spelling (take place cells) ++ 45 ∷ cell_spelling cell = ap spelling take_one_more ∙ spelling_push (take place cells) cell some in
      record {
        spells = is ∙ ap (λ (bytes : List ℕ). bytes ++ cell_spelling cell) hyphen ∙ append_assoc text (45 ∷ []) (cell_spelling cell) ∙ ap (λ (bytes : List ℕ). bytes ++ 45 ∷ cell_spelling cell) so_far.spells ∙ sym more;
        fits = still_fits;
      }

pub all_written : (cells : List ℕ) (place : ℕ) (text : List ℕ) → length cells ≤ place → WrittenSoFar cells place text → (text ≡ spelling cells) × AreCells cells
all_written cells place text le so_far = (so_far.spells ∙ ap spelling (take_all place cells le), subst AreCells (take_all place cells le) so_far.fits)
