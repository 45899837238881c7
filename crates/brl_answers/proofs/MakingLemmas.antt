-- What holds of new files once one more of them is looked for, or made.
use Rattle.std.proofs.Common.{◌≡◌, ◌≢◌, ◌∙◌, ℕ, ◌+◌, ◌<◌, ◌≤◌, List, All, Err, Some, length, get_or, take, option_map, arith, ap, refl, subst, sym}
use Rattle.std.proofs.lemmas.List.{get_or-take, get_or_read, length-take, take_all, take_more}
use Rattle.std.proofs.lemmas.List.Elements.{All-more}
use Rattle.std.proofs.lemmas.List.Quantifiers.{all_pairs_push}
use Rattle.std.proofs.lemmas.Option.{slice_get_read}
use Rattle.brl_lines.specs.Answer.{FileAnswers}
use Rattle.brl_answers.specs.Files.{IsGivenBy, MayBeAbsent, OthersStay, path_of}
use Rattle.brl_answers.specs.Making.{AreApart, AreMade, AreNew, AreWritten, AreWrittenBefore, HasPathAt, IsFree, IsNamed, IsNoneOf, OnlyTheseChange}
use Rattle.brl_answers.specs.declared.new_files.NewFile.{NewFile}
use Rattle.brl_answers.specs.declared.run_fault.RunFault.{RunFault}
use Rattle.brl_answers.specs.declared.run_fault.RunFault.TheVariants.{CannotWrite}

-- at the end of the list all files are the first ones
pub all_of : (P : List NewFile → Type 0) (files : List NewFile) (i : ℕ) → length files ≤ i → P (take i files) → P files
all_of P files i end h = subst P (take_all i files end) h

-- ---- The file at a place

module _ (files : List NewFile) (i : ℕ) (file : NewFile) (within : i < length files) (is : file ≡ get_or files i file) where
  pub path_at : (path : List ℕ) → path_of file ≡ path → HasPathAt files i path
  path_at path same = ap (option_map path_of) (slice_get_read files (length files) i file refl within is) ∙ ap Some same

  -- one more file is new
  pub more_new : (gives : FileAnswers) → AreNew gives (take i files) → IsFree gives (take i files) (path_of file) → AreNew gives (take (i + 1) files)
  more_new gives new free =
      let at : IsFree gives (take i files) (path_of (get_or files i file)) = subst (λ (f : NewFile). IsFree gives (take i files) (path_of f)) is free in (
        subst AreApart (sym (take_more files i file within)) (all_pairs_push (λ one other. path_of one ≢ path_of other) (take i files) (get_or files i file) new.0 at.1),
        All-more (λ f. MayBeAbsent gives (path_of f)) files i file within new.1 at.0,
      )

  -- a path of none of the first files and this one is none of the first, and not this one's
  none_before : (p : List ℕ) → IsNoneOf (take (i + 1) files) p → IsNoneOf (take i files) p
  none_before p none = λ k d l.
      let lt : k < i = omega (arith, length-take i files) in
      let far : k < i + 1 = omega arith in
      subst (λ (f : NewFile). path_of f ≢ p) (get_or-take (i + 1) files k d far ∙ sym (get_or-take i files k d lt)) (none k d (omega (arith, length-take i files, length-take (i + 1) files)))

  not_here : (p : List ℕ) → IsNoneOf (take (i + 1) files) p → path_of file ≢ p
  not_here p none =
      let far : i < i + 1 = omega arith in
      subst (λ (f : NewFile). path_of f ≢ p) (get_or-take (i + 1) files i file far ∙ sym is) (none i file (omega (arith, length-take (i + 1) files)))

  module _ (apart : AreApart files) (start old new : FileAnswers) (written : AreWritten (take i files) start old) (others : OthersStay old new (path_of file)) where
    -- the first files are given still
    given_still : All (IsGivenBy new) (take i files)
    given_still = λ k d l.
        let lt : k < i = omega (arith, length-take i files) in
        let differ : path_of (get_or (take i files) k d) ≢ path_of file =
        λ same. apart k i d lt within (ap path_of (sym (get_or-take i files k d lt)) ∙ (same ∙ ap path_of (get_or_read files i file within is d))) in
        others.1 _ _ differ ∙ written.0 k d l

    only_more : OnlyTheseChange start new (take (i + 1) files)
    only_more = (
      others.0 ∙ written.1.0,
      λ p a none. others.1 p a (λ same. not_here p none (sym same)) ∙ written.1.1 p a (none_before p none),
    )

    -- this file wasn't made
    pub stops_here : AreWrittenBefore i files start new
    stops_here = (given_still, only_more)

    -- this file was made
    pub more_written : IsGivenBy new file → AreWritten (take (i + 1) files) start new
    more_written given = (All-more (IsGivenBy new) files i file within given_still (subst (IsGivenBy new) is given), only_more)

-- a file couldn't be made, and the fault names it
pub named_made : (files : List NewFile) (before after : FileAnswers) (place : ℕ) (fault : RunFault) → AreNew before files → IsNamed files place fault → AreWrittenBefore place files before after → AreMade files before after (Err fault)
named_made files before after place (CannotWrite path made) new named written = (new, (place, named, written))
named_made files before after place fault new named written = absurd named
