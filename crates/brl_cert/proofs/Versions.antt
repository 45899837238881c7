-- A whole certificate is read back from its spelling, whichever its version.
use Rattle.std.proofs.Common.{◌≡◌, ℕ, eqb, List, ◌∷◌, ◌++◌, Result, Ok, refl, sym, ap, ◌∙◌}
use Rattle.std.specs.Fmt.{digits}
use Rattle.std.proofs.lemmas.List.Splits.{slice_split_at}
use Rattle.brl_cert.specs.declared.fault.CertFault.{CertFault}
use Rattle.brl_pairs.specs.Body.{BodyView, same_pair}
use Rattle.brl_cert.specs.Dues.{dues_format, word_format}
use Rattle.brl_cert.specs.Lines.{StateFormat, spelled_body, body_of, ◌>>>◌}
use Rattle.brl_cert.specs.Window.{window_format}
use Rattle.brl_cert.specs.Reading.{spelled_header, header_of, certificate_of, empty_body, reading, spelling, version_of, written_so}
use Rattle.brl_states.specs.declared.cert.Cert.TheVariants.{Dues, Window, Word}
use Rattle.brl_states.specs.declared.cert.Cert.{Cert as Certificate}
use Rattle.brl_cert.specs.Valid.{IsBody, IsCertificate, IsDuesState, IsCapsFree}
use Rattle.brl_cert.proofs.FieldLaws.{IsAbove, ReadsCells, apart, above_true}
use Rattle.brl_cert.proofs.Again.{KeepsStates, body_again, first_part}
use Rattle.brl_cert.proofs.Window.{NumberPair-Decides, flips, keeps_windows}

-- a header is read back, has no line feed, and the lines after it are those of a form of states
record Heads {S : Type 0} (form : StateFormat S) (wrap : BodyView S → Certificate) (n : ℕ) : Type 0 where
  again : header_of (spelled_header n) ≡ Ok n
  bare : IsAbove 10 (spelled_header n)
  lines : (parts : List (List ℕ)) → version_of n parts ≡ written_so form wrap parts

first_heads : Heads window_format Window 1
unfolding digits
first_heads = record { again = refl; bare = above_true 10 (spelled_header 1) refl; lines = λ parts. refl }

second_heads : Heads dues_format Dues 2
unfolding digits
second_heads = record { again = refl; bare = above_true 10 (spelled_header 2) refl; lines = λ parts. refl }

third_heads : Heads word_format Word 3
unfolding digits
third_heads = record { again = refl; bare = above_true 10 (spelled_header 3) refl; lines = λ parts. refl }

body_is_read : {S : Type 0} (form : StateFormat S) {IsState : S → Type 0} → KeepsStates form IsState → ReadsCells → (wrap : BodyView S → Certificate) (n : ℕ) → Heads form wrap n → (body : BodyView S) → IsBody form IsState body
    → reading (spelled_header n ++ 10 ∷ spelled_body form body) ≡ Ok (wrap body)
body_is_read form keeps law wrap n heads body good =
    let first = first_part 10 (spelled_body form body) in
    ap certificate_of (slice_split_at (λ b. eqb b 10) (spelled_header n) 10 (spelled_body form body) (apart 10 (spelled_header n) heads.bare) refl ∙ ap (λ (ps : List (List ℕ)). spelled_header n ∷ ps) first.2)
    ∙ rw heads.again (heads.lines (first.0 ∷ first.1) ∙ ap (λ (ps : List (List ℕ)). body_of form 2 empty_body ps >>> λ all. Ok (wrap all)) (sym first.2)
    ∙ ap (λ (r : Result (BodyView _) CertFault). r >>> λ all. Ok (wrap all)) (body_again form keeps law (flips same_pair NumberPair-Decides) 2 body good))

-- what is spelled is read
pub spelled_is_read : ReadsCells → KeepsStates dues_format (IsCapsFree IsDuesState (λ s. s.run)) → KeepsStates word_format IsDuesState → (c : Certificate) → IsCertificate c → reading (spelling c) ≡ Ok c
spelled_is_read law owing word (Window body) good = body_is_read window_format keeps_windows law Window 1 first_heads body good
spelled_is_read law owing word (Dues body) good = body_is_read dues_format owing law Dues 2 second_heads body good
spelled_is_read law owing word (Word body) good = body_is_read word_format word law Word 3 third_heads body good
