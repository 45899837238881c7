-- What is shown with one section more.
use Rattle.std.proofs.Common.{◌≡◌, ◌∙◌, ◌++◌, ℕ, Bool, true, false, List, [], ◌∷◌, Option, Result, Ok, Err, IsErrAnd, ap, append_assoc, append-nil, length, refl, subst, sym}
use Rattle.std.specs.Io.KnownBytes.{Appends}
use Rattle.std.proofs.lemmas.Result.{err_from_is_err_and}
use Rattle.brl_stream.proofs.KnownBytes.{Appends-nil, Appends-trans}
use Rattle.brl_accepted.specs.Reading.{is_excused}
use Rattle.brl_answers.specs.declared.run_fault.RunFault.{RunFault}
use Rattle.brl_answers.specs.declared.run_fault.RunFault.TheVariants.{Memory, OutputFailed}
use Rattle.brl_clashes.proofs.Lines.{one_more_section}
use Rattle.brl_clashes.proofs.Listed.{one_more_left, one_more_place, tally_more, whole_more}
use Rattle.brl_clashes.specs.Accepted.{is_less}
use Rattle.brl_clashes.specs.ClashesText.{IsHead, IsTop, sets_in}
use Rattle.brl_clashes.specs.Sets.{plain}
use Rattle.brl_clashes.specs.Columns.{column_names}
use Rattle.brl_clashes.specs.Kinds.{section_kinds}
use Rattle.brl_clashes.specs.SectionText.{IsSectionText}
use Rattle.brl_clashes.specs.Sections.{IsSection, are_whole, is_whole}
use Rattle.brl_clashes.specs.Showing.{AreFound, AreTexts, Asked, IsShown, IsTally, IsTallyWith, IsText, Shows, ShowsSection, firsts_in, kept_by}
use Rattle.brl_clashes.specs.declared.list_form.ListForm.{ListForm}
use Rattle.brl_clashes.specs.declared.list_form.ListForm.TheVariants.{Screen, Pairs, Columns}
use Rattle.brl_clashes.specs.declared.section.Section.{Section}
use Rattle.brl_clashes.specs.declared.tally.Tally.{Tally}

-- some first sections of a list were shown, and all are whole or the last one isn't
pub record HasShown (asked : Asked) (sections left : List Section) (text : List ℕ) (whole : Bool) (tally : Tally) (old new : Option (List ℕ)) : Type 0 where
  pub found : AreFound asked sections left
  pub texts : AreTexts asked sections left text
  pub whole_are : are_whole sections ≡ whole
  pub tally_is : IsTally sections left tally
  pub written : Appends old new text

module _ (asked : Asked) (sections left : List Section) (text : List ℕ) (tally : Tally) (old mid : Option (List ℕ)) (so_far : HasShown asked sections left text true tally old mid) where
  module _ (place : ℕ) (at : length sections ≡ place) (s : Section) (section : IsSection asked.table asked.left_out asked.limit place s) where
    -- one section more is found
    found_more : (x : Section) (part : List ℕ) → IsShown asked tally.left s x part → AreFound asked (sections ++ s ∷ []) (left ++ x ∷ [])
    found_more x part is = record {
      first = one_more_place (λ (p : ℕ) (y : Section). IsSection asked.table asked.left_out asked.limit p y) sections s so_far.found.first
          (subst (λ (p : ℕ). IsSection asked.table asked.left_out asked.limit p s) (sym at) section);
      beside = one_more_left (is_excused asked.excused) sections left s x so_far.found.beside is.beside;
    }

    -- its text comes after that of the others
    texts_more : (x : Section) (part : List ℕ) → IsShown asked tally.left s x part → AreTexts asked (sections ++ s ∷ []) (left ++ x ∷ []) (text ++ part)
    texts_more x part is =
        one_more_section asked.table asked.lines (firsts_in asked) asked.form [] sections left s x text part so_far.texts
        (subst (λ (pairs : List (ℕ × ℕ)). IsSectionText asked.table asked.lines (firsts_in asked) asked.form (is_less s x) pairs x part) so_far.tally_is.left_pairs is.shows)

    -- it is shown
    pub shown_more : (whole : Bool) (x : Section) (part : List ℕ) (after : Tally) (new : Option (List ℕ)) → is_whole s.found ≡ whole → IsShown asked tally.left s x part → IsTallyWith s x tally after → Appends mid new part
        → HasShown asked (sections ++ s ∷ []) (left ++ x ∷ []) (text ++ part) whole after old new
    shown_more whole x part after new is_so is more writes = record {
      found = found_more x part is;
      texts = texts_more x part is;
      whole_are = whole_more sections s whole so_far.whole_are is_so;
      tally_is = tally_more sections left s x tally after so_far.tally_is more;
      written = Appends-trans old mid new text part so_far.written writes;
    }

    -- the output or memory ended that
    pub section_stopped : (fault : RunFault) (after : Tally) (new : Option (List ℕ)) → ShowsSection asked s tally after mid new (Err fault) → Shows AreTexts asked old new (Err fault)
    section_stopped OutputFailed after new (x, front, rest, is, writes) = (
      tt,
      (
        sections ++ s ∷ [],
        left ++ x ∷ [],
        text ++ front,
        rest,
        found_more x (front ++ rest) is,
        subst (AreTexts asked (sections ++ s ∷ []) (left ++ x ∷ [])) (sym (append_assoc text front rest)) (texts_more x (front ++ rest) is),
        Appends-trans old mid new text front so_far.written writes,
      ),
    )
    section_stopped Memory after new writes = memory_ended new writes
      where
        memory_ended : (new : Option (List ℕ)) → Appends mid new [] → Shows AreTexts asked old new (Err Memory)
        memory_ended new writes = (
          tt,
          (sections, left, text, [], so_far.found, subst (AreTexts asked sections left) (sym (append-nil text)) so_far.texts, subst (Appends old new) (append-nil text) (Appends-trans old mid new text [] so_far.written writes)),
        )
    section_stopped fault after new is = absurd is

  -- memory ran out before more was written
  pub stopped : Shows AreTexts asked old mid (Err Memory)
  stopped = (tt, (sections, left, text, [], so_far.found, subst (AreTexts asked sections left) (sym (append-nil text)) so_far.texts, so_far.written))

  -- all sections were shown
  pub all_shown : length sections ≡ length (section_kinds asked.table asked.left_out) → Shows AreTexts asked old mid (Ok tally)
  all_shown all = (
    sections,
    left,
    text,
    record { are = record { first = so_far.found.first; all = λ whole. all }; beside = so_far.found.beside; kept = so_far.tally_is },
    so_far.texts,
    so_far.written,
  )

-- those up to one that isn't whole were shown
pub part_shown : (asked : Asked) (sections left : List Section) (text : List ℕ) (tally : Tally) (old new : Option (List ℕ)) → HasShown asked sections left text false tally old new → Shows AreTexts asked old new (Ok tally)
part_shown asked sections left text tally old new shown = (
  sections,
  left,
  text,
  record { are = record { first = shown.found.first; all = λ whole. (let e : true ≡ false = sym whole ∙ shown.whole_are in cc) }; beside = shown.found.beside; kept = shown.tally_is },
  shown.texts,
  shown.written,
)

-- ---- What comes before the sections

-- there is something that may come before a list in each form
top_of : (form : ListForm) → (top : List ℕ) × IsTop form top
top_of Screen = ([], tt)
top_of (Pairs first key) = ([], refl)
top_of (Columns key) = (column_names, refl)

-- no sections are found yet
pub none_found : (asked : Asked) → AreFound asked [] []
none_found asked = record { first = λ place s there. (let e = there in cc); beside = tt }

-- no sections were shown yet
pub none_shown : (asked : Asked) (tally : Tally) (old : Option (List ℕ)) → IsTally [] [] tally → HasShown asked [] [] [] true tally old old
none_shown asked tally old is = record { found = none_found asked; texts = refl; whole_are = refl; tally_is = is; written = Appends-nil old }

-- nothing was written
pub nothing_shown : (asked : Asked) (old new : Option (List ℕ)) → Appends old new [] → Shows IsText asked old new (Err Memory)
nothing_shown asked old new writes =
    let (top, is) = top_of asked.form in
    let head = top ++ sets_in asked.form asked.table (plain asked.table asked.left_out) in
    (tt, ([], [], [], head, none_found asked, (head, [], (top, is, refl), refl, sym (append-nil head)), writes))

-- ---- Memory

-- memory ran out before a section was written
pub memory_at_section : (asked : Asked) (s : Section) (before after : Tally) (old : Option (List ℕ)) (result : Result (Unit {0}) RunFault) → IsErrAnd result (λ e. e ≡ Memory) → ShowsSection asked s before after old old result
memory_at_section asked s before after old result is =
    let p = err_from_is_err_and result is in
    subst (ShowsSection asked s before after old old) (sym (p.1 ∙ ap Err p.2)) (Appends-nil old)

-- a section couldn't be written whole
pub failed_at_section : (asked : Asked) (s x : Section) (before after : Tally) (old new : Option (List ℕ)) (front rest : List ℕ) (result : Result (Unit {0}) RunFault) → IsErrAnd result (λ e. e ≡ OutputFailed)
    → IsShown asked before.left s x (front ++ rest) → Appends old new front → ShowsSection asked s before after old new result
failed_at_section asked s x before after old new front rest result ended is writes =
    let p = err_from_is_err_and result ended in
    subst (ShowsSection asked s before after old new) (sym (p.1 ∙ ap Err p.2)) (x, front, rest, is, writes)

-- memory ran out before a section was found
pub memory_at_each : (asked : Asked) (sections left : List Section) (text : List ℕ) (tally now : Tally) (old mid : Option (List ℕ)) → HasShown asked sections left text true tally old mid → (result : Result (Unit {0}) RunFault)
    → IsErrAnd result (λ e. e ≡ Memory) → Shows AreTexts asked old mid (kept_by now result)
memory_at_each asked sections left text tally now old mid so_far result is =
    let p = err_from_is_err_and result is in
    subst (λ (r : Result (Unit {0}) RunFault). Shows AreTexts asked old mid (kept_by now r)) (sym (p.1 ∙ ap Err p.2)) (stopped asked sections left text tally old mid so_far)

-- a section ended it
pub fault_at_each : (asked : Asked) (sections left : List Section) (text : List ℕ) (tally after now : Tally) (old mid new : Option (List ℕ)) → HasShown asked sections left text true tally old mid → (place : ℕ) → length sections ≡ place → (s : Section)
    → IsSection asked.table asked.left_out asked.limit place s → (fault : RunFault) → ShowsSection asked s tally after mid new (Err fault) → (result : Result (Unit {0}) RunFault) → IsErrAnd result (λ e. e ≡ fault)
    → Shows AreTexts asked old new (kept_by now result)
fault_at_each asked sections left text tally after now old mid new so_far place at s section fault shows result is =
    let p = err_from_is_err_and result is in
    subst (λ (r : Result (Unit {0}) RunFault). Shows AreTexts asked old new (kept_by now r)) (sym (p.1 ∙ ap Err p.2)) (section_stopped asked sections left text tally old mid so_far place at s section fault after new shows)

-- the fault of a step is that of the whole
pub same_fault : (asked : Asked) (old new : Option (List ℕ)) (fault : RunFault) (result : Result Tally RunFault) → IsErrAnd result (λ e. e ≡ fault) → Shows AreTexts asked old new (Err fault) → Shows AreTexts asked old new result
same_fault asked old new fault result is shows =
    let p = err_from_is_err_and result is in
    subst (Shows AreTexts asked old new) (sym (p.1 ∙ ap Err p.2)) shows

-- memory ran out before the first section
pub memory_before : (asked : Asked) (old : Option (List ℕ)) (result : Result Tally RunFault) → IsErrAnd result (λ e. e ≡ Memory) → Shows AreTexts asked old old result
memory_before asked old result is = same_fault asked old old Memory result is (tt, ([], [], [], [], none_found asked, refl, Appends-nil old))

-- memory ran out before anything was written
pub memory_at_list : (asked : Asked) (old : Option (List ℕ)) (result : Result Tally RunFault) → IsErrAnd result (λ e. e ≡ Memory) → Shows IsText asked old old result
memory_at_list asked old result is =
    let p = err_from_is_err_and result is in
    subst (Shows IsText asked old old) (sym (p.1 ∙ ap Err p.2)) (nothing_shown asked old old (Appends-nil old))

module _ (asked : Asked) (head : List ℕ) (is : IsHead asked.table asked.left_out asked.form head) (old mid : Option (List ℕ)) where
  -- what comes before the sections couldn't be written whole
  pub failed_at_head : (front rest : List ℕ) → head ≡ front ++ rest → Appends old mid front → (result : Result Tally RunFault) → IsErrAnd result (λ e. e ≡ OutputFailed) → Shows IsText asked old mid result
  failed_at_head front rest parts writes result ended =
      let p = err_from_is_err_and result ended in
      subst (Shows IsText asked old mid) (sym (p.1 ∙ ap Err p.2)) (tt, ([], [], front, rest, none_found asked, (head, [], is, refl, sym parts ∙ sym (append-nil head)), writes))

  -- it was written, and then what is shown of the sections
  pub after_head : (new : Option (List ℕ)) → Appends old mid head → (result : Result Tally RunFault) → Shows AreTexts asked mid new result → Shows IsText asked old new result
  after_head new writes (Ok tally) (sections, left, text, whole, texts, rest) = (sections, left, head ++ text, whole, (head, text, is, texts, refl), Appends-trans old mid new head text writes rest)
  after_head new writes (Err fault) (end, (sections, left, front, rest, found, texts, more)) =
      (end, (sections, left, head ++ front, rest, found, (head, front ++ rest, is, texts, append_assoc head front rest), Appends-trans old mid new head front writes more))
