use Rattle.std.proofs.Common.{◌≡◌, ◌∙◌, ◌<◌, ◌==◌, List, ℕ, false, true, length, refl, arith, ne_eqb}
use Rattle.std.proofs.lemmas.Bool.Decides.{Decides-eqb}
use Rattle.std.proofs.lemmas.Str.{utf8_valid_len-IsUtf8}
use Rattle.std.specs.Str.Lossy.{utf8_valid_len}
use Rattle.brl_explain.specs.InFile.{byte_at, byte_note}
use Rattle.brl_explain.proofs.in_file.byte_note.Goals as goal

-- where the first bytes alone are UTF-8, the note is on the next one
noted : (path bytes : List ℕ) (valid : ℕ) → valid ≡ utf8_valid_len bytes → valid < length bytes → byte_note path bytes ≡ byte_at path bytes valid
noted path bytes valid same short =
    let differs : (utf8_valid_len bytes == length bytes) ≡ false = ne_eqb (utf8_valid_len bytes) (length bytes) (λ all. omega arith) in
    rw (differs, same) refl

pub placed_byte-requires : goal.placed_byte-requires
placed_byte-requires c = let short = c.in-Err.ensures.cases.1.short in omega (arith, short, c.valid_up_to.ensures)

pub returns-in-Ok : goal.returns-in-Ok
returns-in-Ok c =
    let all : (utf8_valid_len c.args.bytes.now == length c.args.bytes.now) ≡ true = (Decides-eqb _ _).1 (utf8_valid_len-IsUtf8 c.args.bytes.now c.in-Ok.ensures.cases.1) in
    rw all c.new.ensures.bytes

pub returns-in-Err : goal.returns-in-Err
returns-in-Err c =
    let short = c.in-Err.ensures.cases.1.short in
    let valid : c.valid_up_to.result ≡ utf8_valid_len c.args.bytes.now = c.valid_up_to.ensures ∙ c.in-Err.ensures.valid_len in
    rw (noted c.args.path.now c.args.bytes.now c.valid_up_to.result valid (omega (arith, short, c.valid_up_to.ensures))) c.placed_byte.ensures
