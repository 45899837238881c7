use Rattle.std.proofs.Common.{◌≡◌, ℕ, List, drop, nat_le}
use Rattle.brl_explain.specs.Opcodes.{edits_between}
use Rattle.brl_explain.proofs.WordLemmas.{first_of}
use Rattle.brl_explain.proofs.opcodes.near_word.Given as goal

-- the word is the first of those from here on
abbrev pub invariant-loop-own : goal.invariant-loop-own
invariant-loop-own l =
    first_of (λ (own : List ℕ). nat_le (edits_between own l.word) l.most) l.words l.words
    ≡ first_of (λ (own : List ℕ). nat_le (edits_between own l.word) l.most) l.words (drop l.own-index l.words)
