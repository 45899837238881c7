use Rattle.std.proofs.Common.{None, Some, List, ℕ, Bor, Option, lit<, subst, sym}
use Rattle.std.specs.Option.{MatchOption}
use Rattle.std.proofs.lemmas.Str.Pattern.{split_parts}
use Rattle.brl_accepted.specs.Words.{BeginsWithWord, IsWord}
use Rattle.brl_accepted.proofs.Parting.{is_word_by}
use Rattle.brl_accepted.proofs.index.after_word.Goals as goal

abbrev Follows : List ℕ → Option (Bor (List ℕ)) → Type 0
Follows text found = MatchOption found (IsWord text) (λ rest. BeginsWithWord text rest.now)

pub returns-in_err-rest : goal.returns-in_err-rest
returns-in_err-rest c =
    let text = c.args.text.now in
    subst (Follows text) (sym c.from_residual.ensures) (is_word_by text (split_parts 32 text None c.in_err-rest.ensures.cases (lit< tt)))

pub returns : goal.returns
returns c =
    let front = c.in_ok-rest.field-0-0 in
    let parted = split_parts 32 c.args.text.now (Some (front, c.in_ok-rest.rest)) c.in_ok-rest.ensures.cases (lit< tt) in
    record { word = front.now; is_word = is_word_by front.now parted.1; is = parted.0 }
