-- What `brl check` and `brl search` answer. `accept` is the path of a file that excuses pairs of
-- rules, where there is one. The project's own choice.
use Rattle.std.specs.Prelude.{ℕ, ◌≡◌, ◌≢◌, ◌≤◌, ◌⊎◌, All, Any, IsTrue, List, ◌++◌, length, Option, None, Some, Result, Ok, Err, codes, string_bytes}
use Rattle.brl_accept.specs.Excusing.{IsAcceptedUpTo, IsRefusedUpTo, IsShown}
use Rattle.brl_accept.specs.Judging.{IsAcceptedFor, closed_without, counted}
use Rattle.brl_closure.specs.declared.check.checker.Accepted.{Accepted}
use Rattle.brl_accept.specs.declared.judge_fault.JudgeFault.{JudgeFault}
use Rattle.brl_accept.specs.declared.judge_fault.JudgeFault.TheVariants as judge
use Rattle.brl_accepted.specs.declared.reading.Excusal.{Excusal}
use Rattle.brl_cert.specs.Reading.{reading, spelling}
use Rattle.brl_failure.specs.declared.failure.Failure.{Failure}
use Rattle.brl_failure.specs.declared.failure.Failure.TheVariants as failures
use Rattle.brl_states.specs.Counts.{pair_count, state_count}
use Rattle.brl_states.specs.declared.cert.Cert.{Cert as Certificate}
use Rattle.brl_lines.specs.Answer.{FileAnswers, IsDeterministic, Holds, MayAnswer, most_file_bytes}
use Rattle.brl_lines.specs.Tokens.{LineView}
use Rattle.brl_table.specs.Files.{IsTableOf}
use Rattle.brl_table.specs.Reading.{table_of}
use Rattle.brl_report.specs.Report.{report_text}
use Rattle.brl_search.specs.Scoped.{IsSearched}
use Rattle.brl_search.specs.declared.scoped.Searched.{Searched}
use Rattle.brl_search.specs.declared.scoped.Searched.TheVariants.{Found, NotExchangeable}
use Rattle.brl_search.specs.declared.table_search.Found.TheVariants.{Certified, Clashing, Limit}
use Rattle.brl_rules.specs.TableView.{TableView}
use Rattle.brl_answers.specs.Answers.{HasTextAndStatus, Provided, UnlessMemory, counts_line, with_alphabet_line}
use Rattle.brl_answers.specs.Files.{MayBeSame}
use Rattle.brl_answers.specs.Status.{of_no_table}
use Rattle.brl_answers.specs.declared.answer.Answer.{Answer}
use Rattle.brl_answers.specs.declared.new_files.NewFiles.{NewFiles}
use Rattle.brl_answers.specs.declared.run_fault.RunFault.{RunFault}
use Rattle.brl_answers.specs.declared.run_fault.RunFault.TheVariants.{Wide, NotDefined, WouldOverwrite, Memory}
use Rattle.brl_answers.specs.declared.status.Status.TheVariants.{Done, Refuted, Undecided}
use Rattle.brl_cli.specs.declared.command.AlphabetOption.{AlphabetOption}
use Rattle.brl_tool.specs.Alphabets.{ByAlphabet, spelled_by}
use Rattle.brl_tool.specs.Baselines.{read_paths}
use Rattle.brl_tool.specs.ByLines.{ByFiles, ByLines, IfPassing}
use Rattle.brl_tool.specs.Excusing.{ByExcusal, lines_with}
use Rattle.brl_tool.specs.FileBytes.{ByBytes, IsFileWith}
use Rattle.brl_without.specs.Alphabet.{AlphabetView, HasAll, left_out_by}
use Rattle.brl_without.specs.declared.undefined.Undefined.TheVariants.{LeftOut}

-- ---- `brl check`

-- the line of an acceptance
abbrev pub accepted_line : ℕ → ℕ → List ℕ
accepted_line states pairs = counts_line (codes "accepted") states pairs

-- the answer where a certificate is accepted
abbrev pub IsAcceptance : AlphabetView → Option (List ℕ) → Excusal → Accepted → Answer → Type 0
IsAcceptance alphabet accept excusal accepted answer =
    HasTextAndStatus Done (lines_with alphabet accept excusal (accepted_line accepted.states accepted.pairs)) answer

-- the answer where a certificate is refused: a line that begins with this word
abbrev pub IsRefusal : Answer → Type 0
IsRefusal answer = (rest : List ℕ) × HasTextAndStatus Refuted (codes "refused: " ++ rest) answer

-- the fault is the certificate's, and not the table's
abbrev pub IsOfCertificate : JudgeFault → Type 0
IsOfCertificate (judge.Cert fault) = Unit {0}
IsOfCertificate judge.OldVersion = Unit {0}
IsOfCertificate (judge.Refused fault) = Unit {0}
IsOfCertificate fault = ⊥

-- The answer for a certificate's bytes and a table. Where they are accepted, any two texts over the
-- table's characters that are made of those of an alphabet, of whatever length, that it translates
-- to the same cells are the same step by step but for exchanges, to their ends or up to an accepted
-- pair of rules; where nothing is excused they are equal.
abbrev pub IsJudgement : AlphabetView → Option (List ℕ) → Excusal → TableView → List ℕ → Answer → Type 0
IsJudgement alphabet accept excusal t bytes answer =
    (IsShown (left_out_by t alphabet) excusal.excused t
    × ((accepted : Accepted) × IsAcceptedUpTo (left_out_by t alphabet) excusal.excused t bytes accepted × IsAcceptance alphabet accept excusal accepted answer))
    ⊎ ((fault : JudgeFault) × IsOfCertificate fault × IsRefusedUpTo (left_out_by t alphabet) excusal.excused t bytes fault × IsRefusal answer)

-- a certificate's bytes were judged for a table, or it is too wide for the certificate's version;
-- or memory ran out
abbrev pub Judges : AlphabetView → Option (List ℕ) → TableView → List ℕ → Excusal → Result Answer RunFault → Type 0
Judges alphabet accept t bytes excusal (Ok answer) = IsJudgement alphabet accept excusal t bytes answer
Judges alphabet accept t bytes excusal (Err (Wide fault)) = IsRefusedUpTo (left_out_by t alphabet) excusal.excused t bytes (judge.Wide fault)
Judges alphabet accept t bytes excusal (Err Memory) = Unit {0}
Judges alphabet accept t bytes excusal (Err fault) = ⊥

-- what is answered where the judge accepts nothing
abbrev pub RendersFailure : Failure JudgeFault → Result Answer RunFault → Type 0
RendersFailure (failures.Fault (judge.NoTable fault)) outcome = outcome ≡ Err (of_no_table fault)
RendersFailure (failures.Fault (judge.NotDefined fault)) outcome = outcome ≡ Err (NotDefined (LeftOut fault))
RendersFailure (failures.Fault (judge.Wide fault)) outcome = outcome ≡ Err (Wide fault)
RendersFailure (failures.Fault fault) outcome = UnlessMemory IsRefusal outcome
RendersFailure failures.Memory outcome = outcome ≡ Err Memory

-- the certificate with these bytes was judged for the table of the file at a path
abbrev pub JudgesFile : AlphabetView → FileAnswers → List ℕ → Option (List ℕ) → List ℕ → Result Answer RunFault → Type 0
JudgesFile alphabet gives path accept bytes outcome =
    ByLines gives path (λ lines. ByExcusal alphabet gives accept (table_of lines) lines (Judges alphabet accept (table_of lines) bytes)) outcome

-- The certificate in the file at one path was judged for the table of the file at another, for
-- texts of the characters of which an option says that they are made, but for what a file excuses.
-- The option is read first, then the certificate, the table, and what is excused.
abbrev pub Checks : FileAnswers → List ℕ → List ℕ → Option (List ℕ) → AlphabetOption → Result Answer RunFault → Type 0
Checks gives path cert accept option outcome = ByAlphabet option (λ alphabet. ByBytes gives cert (JudgesFile alphabet gives path accept)) outcome

-- Over files that each have one answer, where nothing is excused: where they define a table that
-- has the characters of the option, and the certificate's file has bytes that are acceptable for
-- it, they are accepted, unless memory runs out.
abbrev pub AcceptsGood : FileAnswers → List ℕ → List ℕ → Option (List ℕ) → AlphabetOption → Result Answer RunFault → Type 0
AcceptsGood gives path cert accept option outcome =
    IsDeterministic gives → accept ≡ None → (alphabet : AlphabetView) → spelled_by option ≡ Some alphabet
    → (bytes : List ℕ) → MayAnswer gives cert (Holds bytes) → length bytes ≤ most_file_bytes
    → (t : TableView) → IsTableOf gives path t → HasAll t alphabet → (accepted : Accepted) → IsAcceptedFor (closed_without (left_out_by t alphabet)) t bytes accepted
    → UnlessMemory (HasTextAndStatus Done (with_alphabet_line alphabet (accepted_line accepted.states accepted.pairs))) outcome

-- the certificate was judged, and accepted where it is acceptable
pub record ChecksAll (gives : FileAnswers) (path cert : List ℕ) (accept : Option (List ℕ)) (option : AlphabetOption) (outcome : Result Answer RunFault) : Type 0 where
  pub checks : Checks gives path cert accept option outcome
  pub accepts : AcceptsGood gives path cert accept option outcome

-- ---- `brl search`

-- how many states and pairs a certificate has
abbrev pub certified_line : Certificate → List ℕ
certified_line cert = counts_line (codes "certified") (state_count cert) (pair_count cert)

-- one file, in place of what is at a path, with the bytes of a certificate
abbrev pub IsFileOf : Certificate → List ℕ → NewFiles → Type 0
IsFileOf cert path files = IsFileWith path (spelling cert) files

-- the answer with a certificate, which is read back from the bytes for its file
abbrev pub IsCertificateAt : AlphabetView → Option (List ℕ) → Excusal → List ℕ → Certificate → Answer → Type 0
IsCertificateAt alphabet accept excusal path cert answer =
    (answer.status ≡ Done) × (string_bytes answer.text ≡ lines_with alphabet accept excusal (certified_line cert)) × IsFileOf cert path answer.files
    × (reading (spelling cert) ≡ Ok cert)

-- the answer where steps of exchanged pairs can't be exchanged everywhere
abbrev pub IsUnexchanged : Answer → Type 0
IsUnexchanged answer = (rest : List ℕ) × HasTextAndStatus Undecided (codes "not exchangeable: " ++ rest) answer

-- The answer that says what is found of a table: a certificate for a file, which `brl check`
-- accepts for the same table and the same excuses; or the report of a clash; or the numbers at
-- which the limit was passed; or why some steps can't be exchanged.
abbrev pub SaysFound : AlphabetView → Option (List ℕ) → Excusal → TableView → List ℕ → Searched → Answer → Type 0
SaysFound alphabet accept excusal t out (Found (Certified cert)) answer =
    IsShown (left_out_by t alphabet) excusal.excused t × IsAcceptedUpTo (left_out_by t alphabet) excusal.excused t (spelling cert) (counted cert)
    × IsCertificateAt alphabet accept excusal out cert answer
SaysFound alphabet accept excusal t out (Found (Clashing clash)) answer = HasTextAndStatus Refuted (report_text t clash.left clash.right clash.cells) answer
SaysFound alphabet accept excusal t out (Found (Limit states pairs)) answer = HasTextAndStatus Undecided (counts_line (codes "limit") states pairs) answer
SaysFound alphabet accept excusal t out (NotExchangeable fault) answer = IsUnexchanged answer

-- the answer of the search of a table with a limit, for texts made of the characters of an
-- alphabet, but for what is excused
abbrev pub IsVerdict : AlphabetView → Option (List ℕ) → Excusal → TableView → List ℕ → ℕ → Answer → Type 0
IsVerdict alphabet accept excusal t out limit answer =
    (found : Searched) × IsSearched (left_out_by t alphabet) excusal.excused t limit found × SaysFound alphabet accept excusal t out found answer

-- the fault names one of these paths, which may be the file for the certificate; or memory ran out
abbrev pub IsOverwriting : MayBeSame → List (List ℕ) → List ℕ → RunFault → Type 0
IsOverwriting same paths out (WouldOverwrite file) = Any (λ one. (one ≡ string_bytes file) × IsTrue (same one out)) paths
IsOverwriting same paths out Memory = Unit {0}
IsOverwriting same paths out fault = ⊥

-- the table of these lines was searched, once no line has a fault, and what is excused is known
abbrev pub SearchesLines : AlphabetView → FileAnswers → List LineView → List ℕ → Option (List ℕ) → ℕ → Result Answer RunFault → Type 0
SearchesLines alphabet gives lines out accept limit outcome =
    IfPassing lines (ByExcusal alphabet gives accept (table_of lines) lines (λ excusal. UnlessMemory (IsVerdict alphabet accept excusal (table_of lines) out limit))) outcome

-- The table of the file at a path was searched, up to a limit, for a certificate for a file that is
-- none that is read, for texts of the characters of which an option says that they are made, but
-- for what a file excuses; `same` says which paths may name one file.
abbrev pub Searches : FileAnswers → MayBeSame → List ℕ → List ℕ → Option (List ℕ) → ℕ → AlphabetOption → Result Answer RunFault → Type 0
Searches gives same path out accept limit option outcome =
    ByAlphabet option (λ alphabet. ByFiles gives path (λ read.
    Provided (All (λ one. one ≢ out) (read_paths read.paths accept)) (IsOverwriting same (read_paths read.paths accept) out)
    (SearchesLines alphabet gives read.lines out accept limit))) outcome
