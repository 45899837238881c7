-- Facts that pass from files in memory to those of a cut.
use Rattle.std.proofs.Common.{◌≡◌, ℕ, Bool, List, Result, Ok, Err, IfErr, map, subst}
use Rattle.brl_failure.specs.Failure.{IfFault}
use Rattle.brl_failure.specs.Raised.{if_fault-weaker}
use Rattle.brl_failure.specs.declared.failure.Failure.{Failure}
use Rattle.brl_lines.specs.Answer.{FileAnswers}
use Rattle.brl_lines.specs.GatherFaults.{IsGathered, gathered_view}
use Rattle.brl_lines.specs.Tokens.{LineView}
use Rattle.brl_lines.specs.declared.gathering.Gathered.{Gathered}
use Rattle.brl_rules.specs.TableView.{TableView}
use Rattle.brl_cut.specs.Cuts.{AreWhole, IsCutFault, IsCutOf, IsUncut, IsUnwritten}
use Rattle.brl_cut.specs.Edits.{Texts}
use Rattle.brl_cut.specs.Files.{file_view}
use Rattle.brl_table.specs.declared.readable.Cut.{Cut}
use Rattle.brl_cut.specs.declared.cutting.CutFault.{CutFault}
use Rattle.brl_cut.specs.declared.cutting.CutFault.TheVariants.{Gather, Load, NotRead}

-- what is cut of the files that were gathered, in the folders of the source, is cut of the table;
-- and why they aren't cut is why the table isn't
module _ (rewrite : Bool) (gives : FileAnswers) (root dir : List ℕ) (gathered : Gathered) (is : IsGathered gives root gathered) (folders : List (List ℕ)) (looked : folders ≡ gives.folders) where
  pub cut-in : (cut : Cut) → IsCutOf rewrite folders (gathered_view gathered) root dir cut → IsCutOf rewrite gives.folders (gathered_view gathered) root dir cut
  cut-in cut h = subst (λ (fs : List (List ℕ)). IsCutOf rewrite fs (gathered_view gathered) root dir cut) looked h

  pub whole-in : (lines : List LineView) → AreWhole folders root (gathered_view gathered) lines → AreWhole gives.folders root (gathered_view gathered) lines
  whole-in lines h = subst (λ (fs : List (List ℕ)). AreWhole fs root (gathered_view gathered) lines) looked h

  uncut-fault : (why : CutFault) → IsUncut rewrite gives.folders root dir (gathered_view gathered) why → IsCutFault rewrite gives root dir why
  uncut-fault (Gather why) h = absurd h
  uncut-fault (Load why) h = (gathered, is, h)
  uncut-fault (NotRead why) h = (gathered, is, h)

  pub cut-fault : {T : Type 0} (result : Result T (Failure CutFault)) → IfErr result (IfFault (IsUncut rewrite folders root dir (gathered_view gathered))) → IfErr result (IfFault (IsCutFault rewrite gives root dir))
  cut-fault (Ok value) h = tt
  cut-fault (Err failure) h =
      if_fault-weaker (IsUncut rewrite folders root dir (gathered_view gathered)) (IsCutFault rewrite gives root dir) failure
      (λ why told. uncut-fault why (subst (λ (fs : List (List ℕ)). IsUncut rewrite fs root dir (gathered_view gathered) why) looked told)) h

  unwritten-fault : (cut : Cut) → IsCutOf rewrite folders (gathered_view gathered) root dir cut → (why : CutFault) → IsUnwritten (map file_view cut.files.items) root dir why → IsCutFault rewrite gives root dir why
  unwritten-fault cut of (Gather why) h = absurd h
  unwritten-fault cut of (Load why) h = absurd h
  unwritten-fault cut of (NotRead why) h = (gathered, is, (cut, cut-in cut of, h))

  -- and so is why the files of the cut aren't read
  pub read-fault : (cut : Cut) → IsCutOf rewrite folders (gathered_view gathered) root dir cut → (files : Texts) → files ≡ map file_view cut.files.items → (result : Result TableView (Failure CutFault))
      → IfErr result (IfFault (IsUnwritten files root dir)) → IfErr result (IfFault (IsCutFault rewrite gives root dir))
  read-fault cut of files e (Ok table) h = tt
  read-fault cut of files e (Err failure) h =
      if_fault-weaker (IsUnwritten files root dir) (IsCutFault rewrite gives root dir) failure
      (λ why told. unwritten-fault cut of why (subst (λ (fs : Texts). IsUnwritten fs root dir why) e told)) h
