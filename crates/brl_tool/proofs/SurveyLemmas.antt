-- One more table of a survey.
use Rattle.std.proofs.Common.{◌≡◌, ◌∙◌, ℕ, Bool, true, false, ◌&&◌, ◌||◌, List, [], ◌∷◌, ◌++◌, All, Option, None, Some, append-nil, ap, map, refl, sym}
use Rattle.std.specs.Prelude.{flat_map, is_some}
use Rattle.std.specs.List.{list_all, list_any}
use Rattle.std.proofs.lemmas.Grind.{flat_map-append}
use Rattle.std.proofs.lemmas.List.{map-append}
use Rattle.std.proofs.lemmas.List.Elements.{All-push}
use Rattle.std.proofs.lemmas.List.Folds.{list_all-append, list_any-append}
use Rattle.brl_lines.specs.Answer.{FileAnswers}
use Rattle.brl_tool.specs.Surveying.{IsPart, IsRefused, IsReport, Part, part_text, status_after_report, status_by, survey_status, text_of_part}
use Rattle.brl_answers.specs.declared.run_fault.RunFault.{RunFault}
use Rattle.brl_answers.specs.declared.status.Status.{Status}
use Rattle.brl_answers.specs.declared.status.Status.TheVariants.{Done, Faulty}
use Rattle.brl_without.specs.Alphabet.{AlphabetView}

-- the tables at these paths were surveyed, and this is the text and the status so far
pub record IsSoFar (brief : Bool) (only : Option AlphabetView) (gives : FileAnswers) (several : Bool) (paths : List (List ℕ)) (text : List ℕ) (status : Status) : Type 0 where
  pub parts : List Part
  pub named : map (λ part. part.path) parts ≡ paths
  pub are : All (IsPart brief only gives) parts
  pub text_is : text ≡ flat_map (text_of_part several) parts
  pub status_is : status ≡ survey_status parts

-- the same of equal paths, texts and statuses
pub so-far-moved : (brief : Bool) (only : Option AlphabetView) (gives : FileAnswers) (several : Bool) {paths paths' : List (List ℕ)} {text text' : List ℕ} {status status' : Status} → paths' ≡ paths → text' ≡ text → status' ≡ status
    → IsSoFar brief only gives several paths text status → IsSoFar brief only gives several paths' text' status'
so-far-moved brief only gives several named is turned so_far = record {
  parts = so_far.parts;
  named = so_far.named ∙ sym named;
  are = so_far.are;
  text_is = is ∙ so_far.text_is;
  status_is = turned ∙ so_far.status_is;
}

-- the status with one more table that was loaded
with-one : (loaded suspect one : Bool) → status_after_report (status_by loaded suspect) one ≡ status_by (loaded && (true && true)) (suspect || (one || false))
with-one true true true = refl
with-one true true false = refl
with-one true false true = refl
with-one true false false = refl
with-one false suspect true = refl
with-one false suspect false = refl

-- and with one that can't be loaded
without-one : (loaded suspect : Bool) → Faulty ≡ status_by (loaded && (false && true)) (suspect || (false || false))
without-one true suspect = refl
without-one false suspect = refl

module _ (brief : Bool) (only : Option AlphabetView) (gives : FileAnswers) (several : Bool) (paths : List (List ℕ)) (text : List ℕ) (status : Status) (so_far : IsSoFar brief only gives several paths text status) (path : List ℕ) where
  one-more : (part : Part) (after : List ℕ) (later : Status) → part.path ≡ path → IsPart brief only gives part → after ≡ text ++ text_of_part several part
      → later ≡ status_by (list_all (λ p. is_some p.report) so_far.parts && (is_some part.report && true)) (list_any (λ p. p.suspect) so_far.parts || (part.suspect || false))
      → IsSoFar brief only gives several (paths ++ path ∷ []) after later
  one-more part after later named is added turned = record {
    parts = so_far.parts ++ part ∷ [];
    named = map-append (λ p. p.path) so_far.parts (part ∷ []) ∙ ap (λ ps. ps ++ part.path ∷ []) so_far.named ∙ ap (λ p. paths ++ p ∷ []) named;
    are = All-push (IsPart brief only gives) so_far.parts part so_far.are is;
    text_is = added ∙ ap (λ t. t ++ text_of_part several part) so_far.text_is
        ∙ sym (flat_map-append (text_of_part several) so_far.parts (part ∷ []) ∙ ap (λ t. flat_map (text_of_part several) so_far.parts ++ t) (append-nil (text_of_part several part)));
    status_is = turned
        ∙ ap (λ loaded. status_by loaded (list_any (λ p. p.suspect) so_far.parts || (part.suspect || false))) (sym (list_all-append (λ p. is_some p.report) so_far.parts (part ∷ [])))
        ∙ ap (λ suspect. status_by (list_all (λ p. is_some p.report) (so_far.parts ++ part ∷ [])) suspect) (sym (list_any-append (λ p. p.suspect) so_far.parts (part ∷ [])));
  }

  -- a table that has a report
  pub with-report : (report after : List ℕ) (suspect : Bool) (later : Status) → IsReport brief only gives path report suspect → after ≡ text ++ part_text several path report → later ≡ status_after_report status suspect
      → IsSoFar brief only gives several (paths ++ path ∷ []) after later
  with-report report after suspect later is added turned =
      one-more (record { path = path; report = Some report; suspect = suspect }) after later refl is added
      (turned ∙ ap (λ s. status_after_report s suspect) so_far.status_is ∙ with-one (list_all (λ p. is_some p.report) so_far.parts) (list_any (λ p. p.suspect) so_far.parts) suspect)

  -- a table that has none
  pub without-report : (fault : RunFault) (later : Status) → IsRefused only gives path fault → later ≡ Faulty → IsSoFar brief only gives several (paths ++ path ∷ []) text later
  without-report fault later is turned =
      one-more (record { path = path; report = None; suspect = false }) text later refl (fault, is, refl) (sym (append-nil text))
      (turned ∙ without-one (list_all (λ p. is_some p.report) so_far.parts) (list_any (λ p. p.suspect) so_far.parts))
