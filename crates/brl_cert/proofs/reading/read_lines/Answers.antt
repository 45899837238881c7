use Rattle.std.proofs.Common.{◌≡◌, ℕ, ◌-◌, ◌≤◌, eqb, List, [], ◌∷◌, length, map, take, drop, take_all, Bor, Result, Ok, slice_index_or, sym, ap, subst, ◌∙◌, arith}
use Rattle.std.specs.List.{slice_split}
use Rattle.std.proofs.lemmas.Bool.Decides.{nat_tests}
use Rattle.brl_cert.specs.Lines.{placed}
use Rattle.brl_cert.specs.Reading.{certificate_of, header_of, reading, version_of}
use Rattle.brl_cert.specs.declared.fault.CertFault.{CertFault}
use Rattle.brl_failure.specs.Failure.{Gives}
use Rattle.brl_failure.specs.declared.failure.Failure.{Failure}
use Rattle.brl_states.specs.declared.cert.Cert.{Cert as Certificate}
use Rattle.brl_cert.proofs.reading.read_lines.Goals as goal

by_header : (bytes : List ℕ) (parts : List (Bor (List ℕ))) (none : Bor (List ℕ)) (version : ℕ) (result : Result Certificate (Failure CertFault))
    → map (λ (part : Bor (List ℕ)). part.now) parts ≡ slice_split (λ b. eqb b 10) bytes → 2 ≤ length parts → placed 1 (header_of (slice_index_or parts 0 none).now) ≡ Ok version
    → Gives (version_of version (map (λ (part : Bor (List ℕ)). part.now) (take (length parts - 1) (drop 1 parts)))) result → Gives (reading bytes) result
by_header bytes [] none version result split two header lines = absurd (omega (arith, two))
by_header bytes (first ∷ []) none version result split two header lines = absurd (omega (arith, two))
by_header bytes (first ∷ next ∷ more) none version result split two header lines =
    let rest : take (length (first ∷ next ∷ more) - 1) (next ∷ more) ≡ next ∷ more = take_all (length (first ∷ next ∷ more) - 1) (next ∷ more) (omega arith) in
    let given : Gives (version_of version (map (λ (part : Bor (List ℕ)). part.now) (next ∷ more))) result =
    subst (λ (ps : List (Bor (List ℕ))). Gives (version_of version (map (λ (part : Bor (List ℕ)). part.now) ps)) result) rest lines in
    subst (λ (ps : List (List ℕ)). Gives (certificate_of ps) result) split (rw header given)

pub returns : goal.returns
returns c = by_header c.args.bytes.now c.as_slice.result.now _ c.in_ok-version.version c.read_version_lines.result
    (ap (map (λ (part : Bor (List ℕ)). part.now)) c.as_slice.ensures.value ∙ c.in_ok-parts.ensures)
    (let some = sym c.is_empty.ensures ∙ c.if-is_empty.false in grind (arith, nat_tests)) c.in_ok-version.ensures.version c.read_version_lines.ensures
