-- The lines at spans: slices of their files' texts, with their tokens in order.
use Rattle.std.proofs.Common.{◌≡◌, ◌∙◌, ◌⊎◌, inl, inr, ℕ, zero, suc, ◌-◌, ◌<◌, List, [], ◌∷◌, ◌++◌, length, map, take, refl, ap, sym, subst, All, arith, None, Some}
use Rattle.std.proofs.Math.Seq.{drop-nil, take-nil}
use Rattle.std.specs.List.{AllByRecursion, enumerate_from}
use Rattle.std.specs.Prelude.{string_bytes}
use Rattle.brl_lines.specs.Answer.{Holds, FileAnswers, MayAnswer}
use Rattle.brl_lines.specs.Files.{Files, answers_of, lines_at, path_at, span_lines, text_at}
use Rattle.brl_lines.specs.Outcome.{AreGiven, IsLineOfFile}
use Rattle.brl_lines.specs.Rows.{piece, without_mark}
use Rattle.brl_lines.specs.Slices.{IsCutFrom, IsInOrder}
use Rattle.brl_lines.specs.Steps.{AreSpans, IsSpan}
use Rattle.brl_lines.specs.Tokens.{LineView, line_of, token_of, tokens}
use Rattle.brl_lines.specs.declared.span.LineSpan.{LineSpan}
use Rattle.brl_lines.proofs.SliceLemmas.{IsGood, all_more, all_of, piece_good}

span_good : (files : Files) (span : LineSpan) → AllByRecursion (IsGood (text_at files span.file) (path_at files span.file)) (span_lines files span)
span_good files span = piece_good (text_at files span.file) (path_at files span.file) span.line span.from span.to

both : (P : LineView → Type 0) (xs ys : List LineView) → AllByRecursion P xs → AllByRecursion P ys → AllByRecursion P (xs ++ ys)
both P [] ys h k = k
both P (x ∷ xs) ys h k = (h.0, both P xs ys h.1 k)

-- each has its tokens in order
in_order : (files : Files) (spans : List LineSpan) → AllByRecursion IsInOrder (lines_at files spans)
in_order files [] = tt
in_order files (span ∷ spans) =
    both IsInOrder (span_lines files span) (lines_at files spans)
    (all_more (IsGood (text_at files span.file) (path_at files span.file)) IsInOrder (λ line good. good.in_order) (span_lines files span) (span_good files span)) (in_order files spans)

pub lines_at-in_order : (files : Files) (spans : List LineSpan) → All IsInOrder (lines_at files spans)
lines_at-in_order files spans = all_of IsInOrder (lines_at files spans) (in_order files spans)

-- the source gave each file, or there is none, which has no text
gave-file : (gives : FileAnswers) (files : Files) (index : ℕ) → AreGiven gives (answers_of files) → index < length files
    → ((bytes : List ℕ) × MayAnswer gives (path_at files index) (Holds bytes) × (without_mark bytes ≡ text_at files index)) ⊎ (text_at files index ≡ [])
gave-file gives [] index given less = absurd (omega arith)
gave-file gives ((name, None) ∷ files) zero given less = inr refl
gave-file gives ((name, Some file) ∷ files) zero given less = inl (string_bytes file.whole, given.0, refl)
gave-file gives (file ∷ files) (suc index) given less = gave-file gives files index given.1 (omega arith)

-- nothing has no lines
no_piece : (i j : ℕ) → piece [] i j ≡ []
no_piece i j = ap (λ (bs : List ℕ). enumerate_from i bs) (ap (take (j - i)) (drop-nil i) ∙ take-nil (j - i))

no_lines : (files : Files) (span : LineSpan) → text_at files span.file ≡ [] → span_lines files span ≡ []
no_lines files span none =
    ap (λ (text : List ℕ). line_of (path_at files span.file) span.line (map token_of (tokens (piece text span.from span.to)))) none
    ∙ ap (λ (row : List (ℕ × ℕ)). line_of (path_at files span.file) span.line (map token_of (tokens row))) (no_piece span.from span.to)

module _ (gives : FileAnswers) (files : Files) (given : AreGiven gives (answers_of files)) where
  of_file : (span : LineSpan) (bytes : List ℕ) → MayAnswer gives (path_at files span.file) (Holds bytes) → without_mark bytes ≡ text_at files span.file → (line : LineView)
      → IsGood (text_at files span.file) (path_at files span.file) line → IsLineOfFile gives line
  of_file span bytes gave text line good =
      (bytes, subst (λ (path : List ℕ). MayAnswer gives path (Holds bytes)) (sym good.of_file) gave, subst (λ (text : List ℕ). IsCutFrom text line) (sym text) good.slices)

  of_span : (span : LineSpan) → IsSpan files span → AllByRecursion (IsLineOfFile gives) (span_lines files span)
  of_span span h =
      elim (gave-file gives files span.file given h.file) [
        | inl (bytes, gave, text) ↦
            all_more (IsGood (text_at files span.file) (path_at files span.file)) (IsLineOfFile gives) (of_file span bytes gave text) (span_lines files span) (span_good files span)
        | inr none ↦ subst (AllByRecursion (IsLineOfFile gives)) (sym (no_lines files span none)) tt
      ]

  slices : (spans : List LineSpan) → AreSpans files spans → AllByRecursion (IsLineOfFile gives) (lines_at files spans)
  slices [] h = tt
  slices (span ∷ spans) h = both (IsLineOfFile gives) (span_lines files span) (lines_at files spans) (of_span span h.0) (slices spans h.1)

  -- each is a slice of a file that was given
  pub slices-given : (spans : List LineSpan) → AreSpans files spans → All (IsLineOfFile gives) (lines_at files spans)
  slices-given spans h = all_of (IsLineOfFile gives) (lines_at files spans) (slices spans h)
