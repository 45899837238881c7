-- What the status says of what was delivered.
use Rattle.std.proofs.Common.{◌≡◌, ◌≢◌, ◌∙◌, ◌⊎◌, ℕ, suc, Bool, ap, true, false, cond, List, [], ◌∷◌, All, arith, length, map, inl, inr, Option, None, Some, Result, Ok, Err, refl, subst, sym}
use Rattle.brl_acting.specs.WholeTable.{ActingView}
use Rattle.brl_cut.specs.Files.{file_view}
use Rattle.brl_tool.specs.Cutting.{new_file_view, status_of_cut, status_over}
use Rattle.std.specs.Global.{Vec}
use Rattle.std.specs.Option.{option_copied}
use Rattle.std.proofs.lemmas.Bool.{eqb-true, lt-ltb}
use Rattle.std.specs.Prelude.{◌==◌, ◌&&◌, ◌||◌, flat_map, if◌then◌else◌, is_some, nat_lt, string_bytes}
use Rattle.std.specs.List.{list_all, list_any}
use Rattle.std.proofs.lemmas.List.{get_or_append_left, length-append}
use Rattle.std.proofs.lemmas.List.Elements.{All-cons, All-nil}
use Rattle.std.specs.Borrow.{Bor}
use Rattle.brl_cert.specs.Reading.{spelling}
use Rattle.brl_lines.specs.Answer.{FileAnswers}
use Rattle.brl_lines.specs.Lines.{Answers as Given}
use Rattle.brl_lines.specs.Outcome.{AreGiven, AreLinesOfFiles}
use Rattle.brl_table.specs.Files.{IsTableOf, IsTableOfFiles}
use Rattle.brl_accept.specs.Excusing.{IsShown}
use Rattle.brl_accepted.specs.declared.reading.Excusal.{Excusal}
use Rattle.brl_search.specs.Scoped.{IsSearched}
use Rattle.brl_search.specs.Searched.{certificate_of}
use Rattle.brl_search.specs.declared.scoped.Searched.{Searched}
use Rattle.brl_search.specs.declared.scoped.Searched.TheVariants.{Found, NotExchangeable}
use Rattle.brl_search.specs.declared.table_search.Found.TheVariants.{Certified, Clashing, Limit}
use Rattle.brl_states.specs.declared.cert.Cert.TheVariants.{Dues, Window, Word}
use Rattle.brl_lines.specs.Tokens.{LineView}
use Rattle.brl_lines.specs.Lines.{lines_of as lines_of_answers}
use Rattle.brl_tool.proofs.ListLemmas.{list_asks}
use Rattle.brl_tool.proofs.OfFiles.{lines_of, of_files}
use Rattle.brl_tool.proofs.WrittenLemmas.{file_written, never_done, never_refuted, whole}
use Rattle.brl_tool.specs.ByLines.{shown_lines}
use Rattle.brl_search.specs.Used.{AreUnused, AreUnusedRules, IsRule, IsUsed}
use Rattle.brl_search.specs.declared.unused.UnusedRules.{UnusedRules}
use Rattle.brl_search.specs.declared.unused.UnusedRules.TheVariants as unused
use Rattle.brl_report.specs.Unused.{unused_text}
use Rattle.brl_rules.specs.TableView.{TableView}
use Rattle.brl_answers.proofs.DeliveryLemmas.{none_changes}
use Rattle.brl_answers.proofs.StepLemmas.{then_ok}
use Rattle.brl_clashes.specs.declared.verdict.ListOutcome.TheVariants.{Clashing}
use Rattle.brl_table.specs.Reading.{AreGood, table_of}
use Rattle.brl_tool.specs.Baselines.{read_paths}
use Rattle.brl_cut.specs.Cuts.{IsRead, written_root}
use Rattle.brl_cut.specs.Edits.{Texts}
use Rattle.brl_tool.specs.Comparing.{IsComparison}
use Rattle.brl_tool.specs.Unused.{status_of_list, status_of_unused, text_of_unused}
use Rattle.brl_tool.specs.Excusing.{Excuses}
use Rattle.brl_tool.specs.Verdicts.{IsJudgement, SaysFound}
use Rattle.brl_answers.specs.Answers.{with_alphabet_line}
use Rattle.brl_cli.specs.declared.command.AlphabetOption.{AlphabetOption}
use Rattle.brl_cli.specs.declared.command.AlphabetOption.TheVariants as alphabets
use Rattle.brl_tool.specs.Alphabets.{spelled_by}
use Rattle.brl_without.specs.Alphabet.{AlphabetView, left_out_by}
use Rattle.brl_answers.specs.Delivery.{Delivers, IsDelivered, World, KeepsFiles, Prints, world}
use Rattle.brl_answers.specs.Files.{MayBeSame, OthersStay}
use Rattle.brl_answers.specs.Making.{FilesAfter}
use Rattle.brl_tool.specs.Running.{Answers, AnswersAtOnce, Asks, KeepsOutput, KeepsFilesRefuted, KeepsFilesUnlessWritten, IsShownBut, MeansDone, MeansRefuted, NoneActs, ReportsCertificate, ReportsClash, SurveysSuspect, WritesTable}
use Rattle.brl_slips.specs.declared.findings.Findings.{Findings}
use Rattle.brl_tool.specs.Slipping.{shows_none, status_of_slips}
use Rattle.brl_tool.specs.Surveying.{IsPart, IsReportIfAny, IsSuspectAt, Part, status_by, text_of_part}
use Rattle.brl_tool.specs.Suspects.{has_unknown_opcode}
use Rattle.brl_table.specs.Survey.{faulty_line_view}
use Rattle.brl_answers.specs.declared.answer.Answer.{Answer}
use Rattle.brl_answers.specs.declared.new_files.NewFile.{NewFile}
use Rattle.brl_answers.specs.declared.new_files.NewFiles.{NewFiles}
use Rattle.brl_answers.specs.declared.new_files.NewFiles.TheVariants.{Nothing, AllNew}
use Rattle.brl_answers.specs.declared.run_fault.RunFault.{RunFault}
use Rattle.brl_answers.specs.declared.status.Status.{Status}
use Rattle.brl_answers.specs.declared.status.Status.TheVariants.{Done, Faulty, Refuted, Undecided}
use Rattle.brl_cli.specs.declared.command.Question.{Question}
use Rattle.brl_cli.specs.declared.command.Question.TheVariants as question

pub unrefuted : (loaded : Bool) → cond loaded Done Faulty ≡ Refuted → ⊥
unrefuted true e = cc
unrefuted false e = cc

-- a cut says by its status whether an opcode is unknown
unknown_left : (unknown : Bool) → cond unknown Refuted Done ≡ Refuted → unknown ≡ true
unknown_left true e = refl
unknown_left false e = absurd cc

-- and whether a line can act
none_acts : (status : Status) (acting : List ActingView) → status_over status (length acting) ≡ Done → acting ≡ []
none_acts status [] e = refl
none_acts status (line ∷ acting) e = cc

some_act : (status : Status) (acting : List ActingView) → status_over status (length acting) ≡ Refuted → (status ≡ Refuted) ⊎ (acting ≢ [])
some_act status [] e = inl e
some_act status (line ∷ acting) e = inr (λ none. cc)

-- a list of slips is refuted only where something is shown
unless_none : (none : Bool) → (if none then Done else Refuted) ≡ Refuted → none ≡ false
unless_none true e = absurd cc
unless_none false e = refl

some_shown : (found : Findings) → status_of_slips found ≡ Refuted → shows_none found ≡ false
some_shown found e = unless_none (shows_none found) e

-- a survey is refuted only where a table is suspect
suspect_status : (loaded suspect : Bool) → status_by loaded suspect ≡ Refuted → suspect ≡ true
suspect_status true true e = refl
suspect_status true false e = absurd cc
suspect_status false suspect e = absurd cc

-- a report says of its table that it is suspect
reports_suspect : (brief : Bool) (gives : FileAnswers) (path : List ℕ) (report : Option (List ℕ)) (suspect : Bool) → IsReportIfAny brief None gives path report suspect → suspect ≡ true → IsSuspectAt gives path
reports_suspect brief gives path (Some text) suspect (skipped, paths, lines, without, of, same) e = (skipped, paths, lines, without, sym same ∙ e)
reports_suspect brief gives path None suspect (fault, refused, none) e = absurd cc

-- a cut is suspect where a line can act, or its opcode is unknown
either_suspect : (acting : List ActingView) (unknown : Bool) → (nat_lt 0 (length acting) || unknown) ≡ true → (unknown ≡ true) ⊎ (acting ≢ [])
either_suspect [] unknown e = inl e
either_suspect (line ∷ acting) unknown e = inr (λ none. cc)

neither_suspect : (acting : List ActingView) (unknown : Bool) → (nat_lt 0 (length acting) || unknown) ≡ false → acting ≡ []
neither_suspect [] unknown e = refl
neither_suspect (line ∷ acting) unknown e =
    let some : nat_lt 0 (length (line ∷ acting)) ≡ true = lt-ltb 0 (length (line ∷ acting)) (omega arith) in
    cc (sym e ∙ ap (λ acts. acts || unknown) some)

module _ (gives : FileAnswers) (word : Bor (List ℕ)) (alphabet : AlphabetView) (spelled : spelled_by (alphabets.Only word) ≡ Some alphabet) where
  acts_suspect : (brief : Bool) (path : List ℕ) (report : Option (List ℕ)) (suspect : Bool) → IsReportIfAny brief (Some alphabet) gives path report suspect → suspect ≡ true → SurveysSuspect (Some word) gives path
  acts_suspect brief path (Some text) suspect (of, cut, (acting, act, is, same)) e =
      elim (either_suspect acting (has_unknown_opcode (map faulty_line_view of.cut.left_out.items)) (sym same ∙ e)) [
        | inl unknown ↦ inl (of, cut, unknown)
        | inr some ↦ inr (alphabet, spelled, (of, cut, (acting, act, some)))
      ]
  acts_suspect brief path None suspect (fault, refused, none) e = absurd cc

  none_suspect : (brief : Bool) (path : List ℕ) (report : Option (List ℕ)) (suspect : Bool) → IsReportIfAny brief (Some alphabet) gives path report suspect → is_some report ≡ true → suspect ≡ false → NoneActs (Some word) gives path [] true
  none_suspect brief path (Some text) suspect (of, cut, (acting, act, is, same)) some e =
      (alphabet, spelled, (of, cut, (acting, act, neither_suspect acting (has_unknown_opcode (map faulty_line_view of.cut.left_out.items)) (sym same ∙ e))))
  none_suspect brief path None suspect is some e = absurd cc

-- what holds of the table of each part that is suspect holds of some table, where one part is
module _ (Is : Part → Type 0) (P : List ℕ → Type 0) (holds : (part : Part) → Is part → part.suspect ≡ true → P part.path) where
  first_suspect : (part : Part) (others : Bool) → Is part → (others ≡ true → (path : List ℕ) × P path) → (suspect : Bool) → part.suspect ≡ suspect → (suspect || others) ≡ true → (path : List ℕ) × P path
  first_suspect part others is later true same told = (part.path, holds part is same)
  first_suspect part others is later false same told = later told

  any_suspect : (parts : List Part) → All Is parts → list_any (λ part. part.suspect) parts ≡ true → (path : List ℕ) × P path
  any_suspect [] are told = absurd cc
  any_suspect (part ∷ parts) are told =
      first_suspect part (list_any (λ p. p.suspect) parts) (are 0 part (omega arith)) (any_suspect parts (λ k d within. are (suc k) d (omega arith))) part.suspect refl told

-- what holds of the table of each part with a report that isn't suspect holds of all, where all
-- parts are such ones
both_true : (one other : Bool) → (one && other) ≡ true → (one ≡ true) × (other ≡ true)
both_true true other e = (refl, e)
both_true false other e = absurd cc

both_false : (one other : Bool) → (one || other) ≡ false → (one ≡ false) × (other ≡ false)
both_false true other e = absurd cc
both_false false other e = (refl, e)

module _ (Is : Part → Type 0) (P : List ℕ → Type 0) (holds : (part : Part) → Is part → is_some part.report ≡ true → part.suspect ≡ false → P part.path) where
  all_done : (parts : List Part) → All Is parts → list_all (λ part. is_some part.report) parts ≡ true → list_any (λ part. part.suspect) parts ≡ false → All P (map (λ part. part.path) parts)
  all_done [] are loaded none = All-nil P
  all_done (part ∷ parts) are loaded none =
      let reports = both_true (is_some part.report) (list_all (λ p. is_some p.report) parts) loaded in
      let suspects = both_false part.suspect (list_any (λ p. p.suspect) parts) none in
      All-cons P part.path (map (λ p. p.path) parts) (holds part (are 0 part (omega arith)) reports.0 suspects.0)
      (all_done parts (λ k d within. are (suc k) d (omega arith)) reports.1 suspects.1)

done_status : (loaded suspect : Bool) → status_by loaded suspect ≡ Done → (loaded ≡ true) × (suspect ≡ false)
done_status true false e = (refl, refl)
done_status true true e = absurd cc
done_status false suspect e = absurd cc

-- texts are all judged where none are
all_units : (paths : List (List ℕ)) (gives : FileAnswers) → All (λ path. NoneActs None gives path [] true) paths
all_units paths gives = λ k d within. tt

-- a list of unused rules says by its status whether it has one
some_listed : (none : Bool) → (none ≡ true → ⊥) → cond none Done Refuted ≡ Done → ⊥
some_listed true some e = some refl
some_listed false some e = cc

none_unused : (alphabet : AlphabetView) (left_out : List ℕ) (t : TableView) (lines : List LineView) (limit : ℕ) (found : UnusedRules) → AreUnusedRules left_out t limit found → status_of_unused found ≡ Done
    → (text_of_unused alphabet t lines found ≡ with_alphabet_line alphabet (unused_text t lines [])) × ((number : ℕ) → IsRule t number → IsUsed left_out t number)
none_unused alphabet left_out t lines limit (unused.Unused numbers) rules done = by numbers.items rules done
  where
    by : (xs : List ℕ) → AreUnused left_out t xs → status_of_list (length xs) ≡ Done
        → (with_alphabet_line alphabet (unused_text t lines xs) ≡ with_alphabet_line alphabet (unused_text t lines [])) × ((number : ℕ) → IsRule t number → IsUsed left_out t number)
    by [] are e = (refl, λ number is. elim (are.others number is) [ inl one ↦ absurd (let within = one.1 in omega (arith, within)) | inr used ↦ used ])
    by (x ∷ xs) are e = absurd (some_listed (length (x ∷ xs) == 0) (λ none. (let size = eqb-true (length (x ∷ xs)) 0 none in omega (arith, size))) e)
none_unused alphabet left_out t lines limit (unused.Limit states) rules done = absurd cc

some_unused : (alphabet : AlphabetView) (left_out : List ℕ) (t : TableView) (lines : List LineView) (limit : ℕ) (found : UnusedRules) → AreUnusedRules left_out t limit found → status_of_unused found ≡ Refuted
    → (numbers : List ℕ) × (numbers ≢ []) × AreUnused left_out t numbers × (text_of_unused alphabet t lines found ≡ with_alphabet_line alphabet (unused_text t lines numbers))
some_unused alphabet left_out t lines limit (unused.Unused numbers) rules refuted = (numbers.items, some numbers.items refuted, rules, refl)
  where
    some : (xs : List ℕ) → status_of_list (length xs) ≡ Refuted → xs ≢ []
    some [] e none = cc
    some (x ∷ xs) e none = cc
some_unused alphabet left_out t lines limit (unused.Limit states) rules refuted = absurd cc

module _ (before after : World) (same_file : MayBeSame) where
  -- answers for other files are given after a file is written
  answers_stay : (out : List ℕ) → OthersStay before.gives after.gives out → (answers : Given) → All (λ one. one ≢ out) (map (λ entry. entry.0) answers) → AreGiven before.gives answers → AreGiven after.gives answers
  answers_stay out others [] apart given = tt
  answers_stay out others (entry ∷ answers) apart given =
      (others.1 entry.0 entry.1 (apart 0 [] (omega arith)) ∙ given.0, answers_stay out others answers (λ k d l. apart (suc k) d (omega arith)) given.1)

  -- a table stays where a file is written that is none of its files
  table_stays : (path out : List ℕ) (paths : List (List ℕ)) (t : TableView) → IsTableOfFiles before.gives path paths t → All (λ one. one ≢ out) paths → OthersStay before.gives after.gives out → IsTableOf after.gives path t
  table_stays path out paths t (lines, (answers, given, are, lines_are), passes, is) apart others =
      (lines, (answers, answers_stay out others answers (subst (All (λ one. one ≢ out)) (sym are) apart) given, ap (λ fs. lines_of_answers fs answers path) others.0 ∙ lines_are), passes, is)

  -- a file that is none of those that are read is none of a table's
  front_apart : (out : List ℕ) (paths : List (List ℕ)) (accept : Option (List ℕ)) → All (λ one. one ≢ out) (read_paths paths accept) → All (λ one. one ≢ out) paths
  front_apart out paths None apart k d within = apart k d within
  front_apart out paths (Some accept) apart k d within =
      subst (λ (one : List ℕ). one ≢ out) (get_or_append_left paths (accept ∷ []) d k within) (apart k d (omega (arith, within, length-append paths (accept ∷ []))))

  -- ---- What a certificate and a search mean

  -- what is shown, where nothing is excused or a file says what is
  shown_but : (accept : Option (List ℕ)) (left_out : List ℕ) (lines : List LineView) (excusal : Excusal) → Excuses before.gives accept (table_of lines) lines excusal → IsShown left_out excusal.excused (table_of lines)
      → IsShownBut accept left_out excusal (table_of lines)
  shown_but None left_out lines excusal nothing shown = shown.1 nothing
  shown_but (Some path) left_out lines excusal at shown = shown

  module _ (path out : List ℕ) (accept : Option (List ℕ)) (option : AlphabetOption) (limit : ℕ) (alphabet : AlphabetView) (spelled : spelled_by option ≡ Some alphabet) (paths : List (List ℕ)) (lines : List LineView) (are : AreLinesOfFiles before.gives path paths lines) (passes : AreGood lines)
      (apart : All (λ one. one ≢ out) (read_paths paths accept)) (excusal : Excusal) (excused : Excuses before.gives accept (table_of lines) lines excusal) (answer : Answer) (files : FilesAfter before.gives after.gives answer.files)
      (prints : Prints before after (string_bytes answer.text)) where
    abbrev IsMeant : Type 0
    IsMeant = (answer.status ≡ Done → ReportsCertificate before after path out accept option) × (answer.status ≡ Refuted → ReportsClash before after × KeepsFiles before after)

    -- with another status it says neither
    neither : (s : Status) → answer.status ≡ s → (s ≡ Done → ⊥) → (s ≡ Refuted → ⊥) → IsMeant
    neither s is undone unrefuted = ((λ done. absurd (undone (sym is ∙ done))), (λ refuted. absurd (unrefuted (sym is ∙ refuted))))

    found_means : (found : Searched) → IsSearched (left_out_by (table_of lines) alphabet) excusal.excused (table_of lines) limit found → SaysFound alphabet accept excusal (table_of lines) out found answer → IsMeant
    found_means (Found (Certified (Word body))) is (shown, accepted, (status, text, file, read)) = (
      (λ done. let (gives, others) = file_written before after (spelling (certificate_of body)) out answer.files file files in
          let stays = table_stays path out paths (table_of lines) (lines, are, passes, refl) (front_apart out paths accept apart) others in (
            alphabet,
            spelled,
            (
              lines,
              excusal,
              (lines_of before.gives path paths lines are, passes, excused),
              shown_but accept (left_out_by (table_of lines) alphabet) lines excusal excused shown,
              (body, accepted, gives, others, stays, subst (Prints before after) text prints),
            ),
          )),
      (λ refuted. let e = sym status ∙ refuted in cc),
    )
    found_means (Found (Certified (Dues body))) is says = absurd is.found_for
    found_means (Found (Certified (Window body))) is says = absurd is.found_for
    found_means (Found (Clashing clash)) is says = (
      (λ done. let e = sym says.0 ∙ done in cc),
      (λ refuted. (
        (path, clash.left, clash.right, clash.cells, lines, lines_of before.gives path paths lines are, passes, is.found_for.0.clash, (false, subst (Prints before after) says.1 prints)),
        subst (FilesAfter before.gives after.gives) says.2 files,
      )),
    )
    found_means (Found (Limit states pairs)) is says = neither Undecided says.0 (λ e. cc) (λ e. cc)
    found_means (NotExchangeable fault) is (rest, says) = neither Undecided says.0 (λ e. cc) (λ e. cc)

  -- ---- What an answer means that was written whole

  abbrev Means : Question → Answer → Type 0
  Means asked answer = FilesAfter before.gives after.gives answer.files → Prints before after (string_bytes answer.text)
      → (answer.status ≡ Done → MeansDone asked before after) × (answer.status ≡ Refuted → MeansRefuted asked before after × KeepsFilesRefuted asked before after)

  abbrev IsAnswerTo : Question → Answer → Type 0
  IsAnswerTo asked answer = AnswersAtOnce asked before.gives same_file (Ok answer)

  -- the files of a cut were written, and define a table
  table_written : (path dir : List ℕ) (made : Vec NewFile) (texts : Texts) (files : NewFiles) → files ≡ AllNew made → map new_file_view made.items ≡ texts
      → IsRead texts (written_root dir path) → FilesAfter before.gives after.gives files → WritesTable before after path dir
  table_written path dir made texts files are same read written =
      let (new, after_files) = subst (FilesAfter before.gives after.gives) are written in
      (made.items, new, after_files, subst (λ (fs : Texts). IsRead fs (written_root dir path)) (sym same) read)

  means : (asked : Question) (answer : Answer) → IsAnswerTo asked answer → Means asked answer
  means (question.Clash path left right options) answer compares files prints =
      let (l, left_read, after_left) = then_ok compares in
      let (r, right_read, after_right) = then_ok after_left in
      let (lines, (paths, are, passes), is) = then_ok after_right in
      elim is [
        | inl (cells, clash, says) ↦ (
          (λ done. tt),
          (λ refuted. (
            (path.now, l, r, cells, lines, lines_of before.gives path.now paths lines are, passes, clash, (options.lines, subst (Prints before after) says.1 prints)),
            subst (FilesAfter before.gives after.gives) says.2 files,
          )),
        )
        | inr (left_is, right_is, none, says) ↦ ((λ done. tt), (λ refuted. let e = sym says.0 ∙ refuted in cc))
      ]
  means (question.Survey paths brief None) answer (parts, named, are, says) files prints = (
    (λ done. all_units (map (λ path. path.now) paths.items) before.gives),
    (λ refuted.
        let (path, is) = any_suspect (IsPart brief None before.gives) (IsSuspectAt before.gives) (λ part is e. reports_suspect brief before.gives part.path part.report part.suspect is e)
        parts are (suspect_status (list_all (λ part. is_some part.report) parts) (list_any (λ part. part.suspect) parts) (sym says.0 ∙ refuted)) in (
          (path, is, (flat_map (text_of_part (nat_lt 1 (length (map (λ p. p.now) paths.items)))) parts, subst (Prints before after) says.1 prints)),
          subst (FilesAfter before.gives after.gives) says.2 files,
        )),
  )
  means (question.Survey paths brief (Some word)) answer surveyed files prints =
      let (alphabet, spelled, (parts, named, are, says)) = then_ok surveyed in (
        (λ done.
            let all = done_status (list_all (λ part. is_some part.report) parts) (list_any (λ part. part.suspect) parts) (sym says.0 ∙ done) in
            subst (All (λ path. NoneActs (Some word) before.gives path [] true)) named
            (all_done (IsPart brief (Some alphabet) before.gives) (λ path. NoneActs (Some word) before.gives path [] true)
            (λ part is some e. none_suspect before.gives word alphabet spelled brief part.path part.report part.suspect is some e) parts are all.0 all.1)),
        (λ refuted.
            let (path, is) = any_suspect (IsPart brief (Some alphabet) before.gives) (SurveysSuspect (Some word) before.gives)
            (λ part is e. acts_suspect before.gives word alphabet spelled brief part.path part.report part.suspect is e)
            parts are (suspect_status (list_all (λ part. is_some part.report) parts) (list_any (λ part. part.suspect) parts) (sym says.0 ∙ refuted)) in (
              (path, is, (flat_map (text_of_part (nat_lt 1 (length (map (λ p. p.now) paths.items)))) parts, subst (Prints before after) says.1 prints)),
              subst (FilesAfter before.gives after.gives) says.2 files,
            )),
      )
  means (question.Slips path columns) answer listed files prints = let (lines, at, is) = then_ok listed in (
    (λ done. tt),
    (λ refuted. ((path.now, (lines, at, (is.lexicon, is.found, is.are, some_shown is.found (sym is.status ∙ refuted))), (string_bytes answer.text, prints)), subst (FilesAfter before.gives after.gives) is.files files)),
  )
  means (question.Cut path dir rewrite None) answer cuts files prints =
      let (of, cut, (status, text, (made, are, same))) = then_ok cuts in
      let table = table_written path.now dir.now made (map file_view of.cut.files.items) answer.files are same (of.table, cut.3) files in (
        (λ done. (table, tt)),
        (λ refuted. ((table, inl (of, cut, unknown_left (has_unknown_opcode (map faulty_line_view of.cut.left_out.items)) (sym status ∙ refuted))), table)),
      )
  means (question.Cut path dir rewrite (Some word)) answer cuts files prints =
      let (alphabet, spelled, after_alphabet) = then_ok cuts in
      let (of, cut, after_cut) = then_ok after_alphabet in
      let (acting, act, after_acting) = then_ok after_cut in
      let (texts, marked, (status, text, (made, are, same))) = then_ok after_acting in
      let table = table_written path.now dir.now made texts answer.files are same marked.1 files in (
        (λ done. (table, (alphabet, spelled, (of, cut, (acting, act, none_acts (status_of_cut of.cut) acting (sym status ∙ done)))))),
        (λ refuted. (
          (
            table,
            elim (some_act (status_of_cut of.cut) acting (sym status ∙ refuted)) [
              | inl unknown ↦ inl (of, cut, unknown_left (has_unknown_opcode (map faulty_line_view of.cut.left_out.items)) unknown)
              | inr some ↦ inr (alphabet, spelled, (of, cut, (acting, act, some)))
            ],
          ),
          table,
        )),
      )
  means (question.Trace path text options) answer traces files prints =
      let (chars, spelled, after_text) = then_ok traces in
      let (lines, at, (known, says)) = then_ok after_text in
      ((λ done. tt), (λ refuted. let e = sym says.0 ∙ refuted in cc))
  means (question.Rules path numbers) answer lists files prints =
      let (lines, at, (known, says)) = then_ok lists in
      ((λ done. tt), (λ refuted. let e = sym says.0 ∙ refuted in cc))
  means (question.Unused path limit option) answer lists files prints =
      let (alphabet, spelled, loads) = then_ok lists in
      let (lines, (paths, are, passes), there) = then_ok loads in
      let (all, (found, rules, says)) = then_ok there in
      let left_out = left_out_by (table_of lines) alphabet in
      let table : IsTableOf before.gives path.now (table_of lines) = of_files before.gives path.now paths (table_of lines) (lines, are, passes, refl) in (
        (λ done.
            let (none, used) = none_unused alphabet left_out (table_of lines) lines limit found rules (sym says.0 ∙ done) in
            (alphabet, spelled, (table_of lines, table, used, (lines, subst (Prints before after) (says.1 ∙ none) prints)))),
        (λ refuted.
            let (numbers, some, are_unused, text) = some_unused alphabet left_out (table_of lines) lines limit found rules (sym says.0 ∙ refuted) in
            ((path.now, alphabet, table_of lines, table, (lines, numbers, some, are_unused, subst (Prints before after) (says.1 ∙ text) prints)), subst (FilesAfter before.gives after.gives) says.2 files)),
      )
  means (question.Explain line) answer explains files prints =
      let (text, is, (notes, seen, says)) = then_ok explains in
      ((λ done. tt), (λ refuted. let e = sym says.0 ∙ refuted in cc))
  means (question.Check path cert accept option) answer is files prints =
      let (alphabet, spelled, reads) = then_ok is.checks in
      let (bytes, holds, loads) = then_ok reads in
      let (lines, (paths, are, passes), defines) = then_ok loads in
      let (defined, excuses) = then_ok defines in
      let (excusal, excused, judged) = then_ok excuses in
      elim judged [
        | inl (shown, (accepted, deserved, says)) ↦ (
          (λ done. (
            alphabet,
            spelled,
            (
              lines,
              excusal,
              (lines_of before.gives path.now paths lines are, passes, excused),
              shown_but (option_copied accept) (left_out_by (table_of lines) alphabet) lines excusal excused shown,
              (accepted.states, accepted.pairs, subst (Prints before after) says.1 prints),
            ),
          )),
          (λ refuted. let e = sym says.0 ∙ refuted in cc),
        )
        | inr (fault, of, refused, (rest, says)) ↦
            ((λ done. let e = sym says.0 ∙ done in cc), (λ refuted. ((rest, subst (Prints before after) says.1 prints), subst (FilesAfter before.gives after.gives) says.2 files)))
      ]
  means (question.Search path out limit accept option) answer is files prints =
      let (alphabet, spelled, loads) = then_ok is in
      let (read, are, stays) = then_ok loads in
      let (apart, checks) = then_ok stays in
      let (passes, defines) = then_ok checks in
      let (defined, excuses) = then_ok defines in
      let (excusal, excused, (found, searched, says)) = then_ok excuses in
      found_means path.now out.now (option_copied accept) option limit alphabet spelled read.paths read.lines are passes apart excusal excused answer files prints found searched says
  means (question.Clashes path limit first key columns option pairs) answer is files prints = absurd is

  -- ---- Only a search, a cut and a list of clashes have files to write

  comparison_has_none : (t : TableView) (lines : List LineView) (left right : List ℕ) (answer : Answer) → IsComparison t lines left right answer → answer.files ≡ Nothing
  comparison_has_none t lines left right answer is = elim is [
    | inl (cells, clash, says) ↦ says.2
    | inr (l, r, none, says) ↦ says.2
  ]

  judgement_has_none : (alphabet : AlphabetView) (accept : Option (List ℕ)) (excusal : Excusal) (t : TableView) (bytes : List ℕ) (answer : Answer) → IsJudgement alphabet accept excusal t bytes answer → answer.files ≡ Nothing
  judgement_has_none alphabet accept excusal t bytes answer is = elim is [
    | inl (shown, (accepted, deserved, says)) ↦ says.2
    | inr (fault, of, refused, (rest, says)) ↦ says.2
  ]

  keeps : (asked : Question) (outcome : Result Answer RunFault) (status : Status) → AnswersAtOnce asked before.gives same_file outcome → Delivers outcome before after status → KeepsFilesUnlessWritten asked before after
  keeps (question.Search path out limit accept option) outcome status is delivers = tt
  keeps (question.Cut path dir rewrite only) outcome status is delivers = tt
  keeps (question.Clash path left right options) (Ok answer) status compares (written, writes, e) =
      let (l, left_read, after_left) = then_ok compares in
      let (r, right_read, after_right) = then_ok after_left in
      let (lines, at, is) = then_ok after_right in
      none_changes before after answer written (comparison_has_none (table_of lines) (shown_lines options.lines lines) l r answer is) writes
  keeps (question.Survey paths brief None) (Ok answer) status (parts, named, are, says) (written, writes, e) = none_changes before after answer written says.2 writes
  keeps (question.Survey paths brief (Some word)) (Ok answer) status surveyed (written, writes, e) =
      let (alphabet, spelled, (parts, named, are, says)) = then_ok surveyed in
      none_changes before after answer written says.2 writes
  keeps (question.Slips path columns) (Ok answer) status listed (written, writes, e) =
      let (lines, at, is) = then_ok listed in
      none_changes before after answer written is.files writes
  keeps (question.Trace path text options) (Ok answer) status traces (written, writes, e) =
      let (chars, spelled, after_text) = then_ok traces in
      let (lines, at, (known, says)) = then_ok after_text in
      none_changes before after answer written says.2 writes
  keeps (question.Rules path numbers) (Ok answer) status lists (written, writes, e) =
      let (lines, at, (known, says)) = then_ok lists in
      none_changes before after answer written says.2 writes
  keeps (question.Unused path limit option) (Ok answer) status lists (written, writes, e) =
      let (alphabet, spelled, loads) = then_ok lists in
      let (lines, at, there) = then_ok loads in
      let (all, (found, rules, says)) = then_ok there in
      none_changes before after answer written says.2 writes
  keeps (question.Explain line) (Ok answer) status explains (written, writes, e) =
      let (text, is, (notes, seen, says)) = then_ok explains in
      none_changes before after answer written says.2 writes
  keeps (question.Check path cert accept option) (Ok answer) status is (written, writes, e) =
      let (alphabet, spelled, reads) = then_ok is.checks in
      let (bytes, holds, loads) = then_ok reads in
      let (lines, at, defines) = then_ok loads in
      let (defined, excuses) = then_ok defines in
      let (excusal, excused, judged) = then_ok excuses in
      none_changes before after answer written (judgement_has_none alphabet (option_copied accept) excusal (table_of lines) bytes answer judged) writes
  keeps (question.Clashes path limit first key columns option pairs) outcome status is delivers = absurd is
  keeps asked (Err fault) status is (stay, still, e) = stay

  -- the answer to a question was delivered at once
  at_once : (asked : Question) (outcome : Result Answer RunFault) (status : Status) → AnswersAtOnce asked before.gives same_file outcome
      → (shown : World) × KeepsFiles before shown × KeepsOutput asked before shown × IsDelivered (Answers asked same_file before shown) shown after status → Delivers outcome before after status → Asks asked same_file before after status
  at_once asked outcome status is delivered delivers = record {
    delivered = delivered;
    files = keeps asked outcome status is delivers;
    done = λ same.
        let (answer, ok, done, files, prints) = whole before after Done never_done outcome status delivers same in
        (means asked answer (subst (AnswersAtOnce asked before.gives same_file) ok is) files prints).0 done;
    refuted = λ same.
        let (answer, ok, refuted, files, prints) = whole before after Refuted never_refuted outcome status delivers same in
        (means asked answer (subst (AnswersAtOnce asked before.gives same_file) ok is) files prints).1 refuted;
  }

-- the answer to a question was delivered, after what was printed before
module _ (before : World) (failures : ℕ) (contents : Option (List ℕ)) (after : World) (same_file : MayBeSame) where
  abbrev shown : World
  shown = world before.gives failures contents

  -- where nothing was printed, the world is as it was
  unchanged : (failures ≡ before.failures) × (contents ≡ before.contents) → shown ≡ before
  unchanged (count, bytes) = (λ i. world before.gives (count i) (bytes i))

  pub asks : (asked : Question) (outcome : Result Answer RunFault) (status : Status) → Answers asked same_file before shown outcome → KeepsOutput asked before shown → Delivers outcome shown after status
      → Asks asked same_file before after status
  asks (question.Clashes path limit first key columns option pairs) outcome status is quiet delivers =
      list_asks before failures contents after same_file path limit first key columns option pairs outcome status is delivers
  asks asked outcome status is quiet delivers =
      at_once before after same_file asked outcome status is (shown, refl, quiet, (outcome, is, delivers)) (subst (λ (w : World). Delivers outcome w after status) (unchanged quiet) delivers)
