use Rattle.std.proofs.Common.{◌≡◌, ◌∙◌, ℕ, Option, Err, ap, inl, option_map, refl, string_bytes}
use Rattle.std.proofs.lemmas.Result.{err_from_is_err_and}
use Rattle.brl_answers.proofs.StepLemmas.{ended, failed}
use Rattle.brl_answers.specs.Answers.{load_outcome}
use Rattle.brl_answers.specs.Status.{of_failure}
use Rattle.std.specs.Global.{Global}
use Rattle.std.specs.Prelude.{String}
use Rattle.brl_answers.specs.declared.run_fault.RunFault.TheVariants.{NotDefined}
use Rattle.brl_failure.specs.declared.failure.Failure.{Failure}
use Rattle.brl_failure.specs.declared.failure.Failure.TheVariants as failures
use Rattle.brl_lines.specs.Outcome.{CountsFailure}
use Rattle.brl_without.specs.declared.undefined.Undefined.{Undefined}
use Rattle.brl_without.specs.Alphabet.{alphabet_view}
use Rattle.brl_lines.specs.Loaded.{LoadedView}
use Rattle.brl_tool.proofs.InputLemmas.{counts_since}
use Rattle.brl_tool.specs.declared.clashes.ListInput.{ListInput}
use Rattle.brl_tool.proofs.clashes.read_input.Goals as goal

-- the option is read, and the files aren't loaded
pub returns-in_err-read-clause-reads : goal.returns-in_err-read-clause-reads
returns-in_err-read-clause-reads g c =
    inl (alphabet_view c.in_ok-alphabet.alphabet, c.in_ok-alphabet.ensures.spelled, failed _ _ c.from_residual-in_err-read.ensures.1 c.in_err-read.ensures.fault)

-- the files are loaded, and one would be overwritten
pub returns-in_err-refuse_file_that_is_read-clause-reads : goal.returns-in_err-refuse_file_that_is_read-clause-reads
returns-in_err-refuse_file_that_is_read-clause-reads g c =
    inl (
      alphabet_view c.in_ok-alphabet.alphabet,
      c.in_ok-alphabet.ensures.spelled,
      inl (
        c.in_ok-read.read,
        c.in_ok-read.ensures.lines,
        ended _ _ c.from_residual-in_err-refuse_file_that_is_read.ensures.1 c.in_err-refuse_file_that_is_read.ensures.refused,
      ),
    )

-- none would be, and a line has a fault
pub returns-in_err-loaded-clause-reads : goal.returns-in_err-loaded-clause-reads
returns-in_err-loaded-clause-reads g c =
    inl (
      alphabet_view c.in_ok-alphabet.alphabet,
      c.in_ok-alphabet.ensures.spelled,
      inl (
        c.in_ok-read.read,
        c.in_ok-read.ensures.lines,
        inl (c.in_ok-refuse_file_that_is_read.ensures.apart, failed _ _ c.from_residual-in_err-loaded.ensures.1 c.in_err-loaded.ensures.fault),
      ),
    )

-- no line has one, and the table lacks characters of the alphabet
pub returns-in_err-left_out-clause-reads : goal.returns-in_err-left_out-clause-reads
returns-in_err-left_out-clause-reads g c =
    inl (
      alphabet_view c.in_ok-alphabet.alphabet,
      c.in_ok-alphabet.ensures.spelled,
      inl (
        c.in_ok-read.read,
        c.in_ok-read.ensures.lines,
        inl (
          c.in_ok-refuse_file_that_is_read.ensures.apart,
          inl (
            c.in_ok-loaded.ensures.passes,
            failed _ _ c.from_residual-in_err-left_out.ensures.1 (rw c.in_ok-loaded.ensures.table at c.in_err-left_out.ensures.fault),
          ),
        ),
      ),
    )

-- the table has them, and the file of accepted pairs has no text
pub returns-in_err-baseline-clause-reads : goal.returns-in_err-baseline-clause-reads
returns-in_err-baseline-clause-reads g c =
    let of = c.in_ok-loaded.ensures in
    inl (
      alphabet_view c.in_ok-alphabet.alphabet,
      c.in_ok-alphabet.ensures.spelled,
      inl (
        c.in_ok-read.read,
        c.in_ok-read.ensures.lines,
        inl (
          c.in_ok-refuse_file_that_is_read.ensures.apart,
          inl (
            of.passes,
            inl (
              rw of.table at c.in_ok-left_out.ensures.all,
              ended _ _ c.from_residual-in_err-baseline.ensures.1 (rw c.in_ok-read.ensures.same at c.in_err-baseline.ensures.fault),
            ),
          ),
        ),
      ),
    )

pub returns-clause-reads : goal.returns-clause-reads
returns-clause-reads g c =
    let of = c.in_ok-loaded.ensures in
    inl (
      alphabet_view c.in_ok-alphabet.alphabet,
      c.in_ok-alphabet.ensures.spelled,
      inl (
        c.in_ok-read.read,
        c.in_ok-read.ensures.lines,
        inl (
          c.in_ok-refuse_file_that_is_read.ensures.apart,
          inl (
            of.passes,
            inl (
              rw of.table at c.in_ok-left_out.ensures.all,
              inl (
                option_map string_bytes c.in_ok-baseline.baseline,
                rw c.in_ok-read.ensures.same at c.in_ok-baseline.ensures.text,
                record {
                  alphabet_is = refl;
                  lines_are = ap (λ (files : LoadedView). files.lines) of.files;
                  table_is = of.table;
                  left_out_is = rw of.table at c.in_ok-left_out.ensures.left_out;
                  baseline_is = refl;
                },
              ),
            ),
          ),
        ),
      ),
    )

-- no file fails where the table lacks characters
no_file : (before now : ℕ) → now ≡ before → (failure : Failure Undefined) → CountsFailure before now (load_outcome {T = ListInput} (Err (of_failure NotDefined failure)))
no_file before now stays (failures.Fault fault) = stays
no_file before now stays failures.Memory = inl stays

pub returns-in_err-left_out-clause-count : goal.returns-in_err-left_out-clause-count
returns-in_err-left_out-clause-count g c =
    let p = err_from_is_err_and c.from_residual-in_err-left_out.result c.from_residual-in_err-left_out.ensures.1 in
    rw (p.1 ∙ ap Err p.2) (no_file _ _ c.in_ok-read.ensures.count _)

pub returns-in_err-baseline-clause-count : goal.returns-in_err-baseline-clause-count
returns-in_err-baseline-clause-count g c =
    counts_since (Option (String Global)) ListInput _ _ _ c.from_residual-in_err-baseline.result c.in_err-baseline.field-0.0 c.from_residual-in_err-baseline.ensures.1 c.in_ok-read.ensures.count c.in_err-baseline.ensures.count
