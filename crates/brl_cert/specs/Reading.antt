-- Whole certificates: their one spelling, and reading it. The project's own choice.
use Rattle.std.specs.Prelude.{ℕ, ◌==◌, if◌then◌else◌, List, [], ◌∷◌, ◌++◌, Option, Some, None, Result, Ok, Err, codes}
use Rattle.std.specs.Str.{bytes_eq}
use Rattle.std.specs.Fmt.{decimal}
use Rattle.std.specs.List.{slice_split, join_with_byte}
use Rattle.brl_cert.specs.declared.fault.CertFault.{CertFault}
use Rattle.brl_cert.specs.declared.fault.CertFaultKind.{CertFaultKind}
use Rattle.brl_cert.specs.declared.fault.CertFaultKind.TheVariants.{Version, Syntax, NotCanonical, Truncated}
use Rattle.brl_states.specs.declared.cert.Cert.{Cert as Certificate}
use Rattle.brl_states.specs.declared.cert.Cert.TheVariants.{Dues, Window, Word}
use Rattle.brl_cert.specs.Dues.{dues_format, word_format}
use Rattle.brl_cert.specs.Lines.{StateFormat, at_line, count, spelled_body, body_of, placed, ◌>>>◌}
use Rattle.brl_pairs.specs.Body.{BodyView}
use Rattle.brl_cert.specs.Window.{window_format}

-- ---- Spelling

-- the header of this version, without its line feed
abbrev pub spelled_header : ℕ → List ℕ
spelled_header n = join_with_byte 32 (codes "BRLCERT" ∷ decimal n ∷ [])

-- the one spelling of a certificate
abbrev pub spelling : Certificate → List ℕ
spelling (Window body) = spelled_header 1 ++ 10 ∷ spelled_body window_format body
spelling (Dues body) = spelled_header 2 ++ 10 ∷ spelled_body dues_format body
spelling (Word body) = spelled_header 3 ++ 10 ∷ spelled_body word_format body

-- ---- Reading

-- the version of the lenient fields of a header
abbrev pub lenient_header : List (List ℕ) → Option ℕ
lenient_header (word ∷ n ∷ []) = if bytes_eq word (codes "BRLCERT") then count.lenient n else None
lenient_header fields = None

-- the version that was read leniently, if the bytes are the one spelling of its header
abbrev pub strict_header : List ℕ → Option ℕ → Result ℕ CertFaultKind
strict_header bytes None = Err Syntax
strict_header bytes (Some n) = if bytes_eq (spelled_header n) bytes then Ok n else Err NotCanonical

-- the version that a header names
abbrev pub header_of : List ℕ → Result ℕ CertFaultKind
header_of bytes = strict_header bytes (lenient_header (slice_split (λ b. b == 32) bytes))

-- the body before the first line
abbrev pub empty_body : {S : Type 0} → BodyView S
empty_body = record { states = []; pairs = [] }

-- the certificate of the parts after a header, whose states are written so
abbrev pub written_so : {S : Type 0} → StateFormat S → (BodyView S → Certificate) → List (List ℕ) → Result Certificate CertFault
written_so form variant parts = body_of form 2 empty_body parts >>> λ body. Ok (variant body)

-- the certificate of the parts after a header of this version
abbrev pub version_of : ℕ → List (List ℕ) → Result Certificate CertFault
version_of version parts =
    if version == 1 then written_so window_format Window parts
    else (if version == 2 then written_so dues_format Dues parts
    else (if version == 3 then written_so word_format Word parts else Err (at_line 1 Version)))

-- the certificate of the parts of bytes between line feeds
abbrev pub certificate_of : List (List ℕ) → Result Certificate CertFault
certificate_of [] = Err (at_line 1 Truncated)
certificate_of (last ∷ []) = Err (at_line 1 Truncated)
certificate_of (header ∷ next ∷ more) = placed 1 (header_of header) >>> λ version. version_of version (next ∷ more)

-- the certificate that bytes spell, or the fault of the first faulty line, with its number
abbrev pub reading : List ℕ → Result Certificate CertFault
reading bytes = certificate_of (slice_split (λ b. b == 10) bytes)
