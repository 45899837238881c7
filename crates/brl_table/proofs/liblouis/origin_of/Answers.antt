use Rattle.std.proofs.Common.{◌≡◌, ◌∙◌, List, ℕ, Option, None, Some, Bor, ap, refl, lit<, sym, is_some, MatchOption}
use Rattle.std.proofs.lemmas.Str.Pattern.{IsSplitOnceResult, split_once_first}
use Rattle.brl_table.specs.Liblouis.{is_blank, origin_if, origin_of}
use Rattle.brl_table.specs.Opcodes.{entry_of, opcode_of, place_opcodes}
use Rattle.brl_table.proofs.Commas.{none_there, one_there}
use Rattle.brl_table.proofs.liblouis.origin_of.Goals as goal

word-split : (opcode : List ℕ) (r : Option (Bor (List ℕ) × Bor (List ℕ))) → IsSplitOnceResult 32 opcode r
    → MatchOption r (origin_of opcode ≡ origin_if (is_some (opcode_of opcode)) opcode) (λ x. origin_of opcode ≡ origin_if (is_some (entry_of place_opcodes x.1.now)) x.1.now)
word-split opcode None h =
    let past = split_once_first 32 opcode None h (lit< tt) in
    rw (none_there is_blank opcode past) refl
word-split opcode (Some x) h =
    let (inside, front, back) = split_once_first 32 opcode (Some x) h (lit< tt) in
    rw (one_there is_blank opcode inside, back) refl

pub returns-in-Some : goal.returns-in-Some
returns-in-Some c =
    let split = rw c.in-Some.is at (word-split c.args.opcode.now c.split_once.result c.split_once.ensures.cases) in
    c.origin.ensures ∙ ap (λ b. origin_if b c.in-Some.word.now) (c.is_some.ensures ∙ ap is_some c.place_opcode.ensures) ∙ sym split

pub returns-in-None : goal.returns-in-None
returns-in-None c =
    let split = rw c.in-None.is at (word-split c.args.opcode.now c.split_once.result c.split_once.ensures.cases) in
    c.origin-in-None.ensures ∙ ap (λ b. origin_if b c.args.opcode.now) (c.is_some-in-None.ensures ∙ ap is_some c.opcode_named.ensures) ∙ sym split
