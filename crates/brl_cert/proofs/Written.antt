-- Lines that are written, bodies whose states no run goes to, and whole certificates.
use Rattle.std.proofs.Common.{◌≡◌, Bool, ℕ, List, [], ◌∷◌, ◌++◌, All, Result, Ok, Err, IfOk, OnOk, sym, ap, ◌∙◌, append_assoc}
use Rattle.std.specs.List.{join_with_byte}
use Rattle.std.proofs.lemmas.List.{append-nil}
use Rattle.brl_pairs.specs.Body.{BodyView}
use Rattle.brl_states.specs.CapsFree.{AreCapsFree}
use Rattle.brl_cert.specs.Lines.{StateFormat, after_blanks}
use Rattle.brl_cert.specs.Reading.{reading, spelling}
use Rattle.brl_cert.specs.Valid.{IsBody, IsCapsFree, IsCertificate}
use Rattle.brl_states.specs.declared.cert.Cert.{Cert as Certificate}

-- joined fields are the first one, and then each after a blank
pub joined : (field : List ℕ) (fields : List (List ℕ)) → join_with_byte 32 (field ∷ fields) ≡ field ++ after_blanks fields
joined field [] = sym (append-nil field)
joined field (next ∷ fields) = ap (λ bytes. field ++ (32 ∷ bytes)) (joined next fields)

pub then_joined : (old word out new : List ℕ) (fields : List (List ℕ)) → out ≡ old ++ word → new ≡ out ++ after_blanks fields → new ≡ old ++ join_with_byte 32 (word ∷ fields)
then_joined old word out new fields first rest =
    rest ∙ ap (λ bytes. bytes ++ after_blanks fields) first ∙ append_assoc old word (after_blanks fields) ∙ ap (λ bytes. old ++ bytes) (sym (joined word fields))

-- a line and its line feed
pub with_feed : (old line out new : List ℕ) → out ≡ old ++ line → new ≡ out ++ 10 ∷ [] → new ≡ old ++ (line ++ 10 ∷ [])
with_feed old line out new first rest = rest ∙ ap (λ bytes. bytes ++ 10 ∷ []) first ∙ append_assoc old line (10 ∷ [])

-- a body in range whose states no run of capitals goes to
pub caps_free : {S : Type 0} (form : StateFormat S) (IsState : S → Type 0) (run : S → Bool) (body : BodyView S) → IsBody form IsState body → AreCapsFree run body.states → IsBody form (IsCapsFree IsState run) body
caps_free form IsState run body is none =
    let each : All (IsCapsFree IsState run) body.states = λ place d within. (is.each_state place d within, none place d within) in
    assumption (each, is)

-- the bytes that were written are the spelling of a certificate, and reading them gives it back
pub written_back : {A E P : Type 0} (bytes : A → List ℕ) (cert : Certificate) (text : List ℕ) (result : Result A E) → IfOk result (λ out. bytes out ≡ text) → text ≡ spelling cert
    → OnOk result P → (P → IsCertificate cert) → (IsCertificate cert → reading (spelling cert) ≡ Ok cert)
    → IfOk result (λ out. bytes out ≡ spelling cert) × IfOk result (λ out. reading (bytes out) ≡ Ok cert)
written_back bytes cert text (Ok out) written same is in_range again = (written ∙ same, ap reading (written ∙ same) ∙ again (in_range is))
written_back bytes cert text (Err fault) written same is in_range again = (tt, tt)
