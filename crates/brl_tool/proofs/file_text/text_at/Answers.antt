use Rattle.std.proofs.Common.{◌≡◌, ℕ, Bool, true, false, List, refl}
use Rattle.std.proofs.lemmas.Str.{IsUtf8-from_is_utf8}
use Rattle.std.specs.Str.{IsUtf8, is_utf8}
use Rattle.brl_tool.proofs.file_text.text_at.Goals as goal

-- bytes that are no text fail the test
no_text : (bytes : List ℕ) → (IsUtf8 bytes → ⊥) → is_utf8 bytes ≡ false
no_text bytes wrong = by_test (is_utf8 bytes) refl
  where
    by_test : (b : Bool) → is_utf8 bytes ≡ b → b ≡ false
    by_test true e = absurd (wrong (IsUtf8-from_is_utf8 bytes e))
    by_test false e = refl

pub returns-clause-fault : goal.returns-clause-fault
returns-clause-fault g c =
    (c.in_ok-from_str-in-Err.ensures.ok, refl, (c.in_ok-bytes.bytes.items, c.in_ok-bytes.ensures.bytes, no_text c.in_ok-bytes.bytes.items (λ good. (let e = c.in-Err.ensures.succeeds good in cc))))
