use Rattle.std.proofs.Common.{◌≡◌, ◌≢◌, ◌∙◌, ◌-◌, ◌++◌, ℕ, List, None, Some, ap, codes, length, refl, subst, sym, take}
use Rattle.std.proofs.lemmas.Bool.Decides.{Decides-eqb}
use Rattle.std.proofs.lemmas.Slice.Eq.{strip_prefix_is}
use Rattle.brl_accepted.specs.Words.{Parts}
use Rattle.brl_accepted.proofs.Parting.{after_third, are_parts, front_is, has_first, has_second, has_third}
use Rattle.brl_accepted.proofs.index.parts.Goals as goal

pub returns-in_err-after_word : goal.returns-in_err-after_word
returns-in_err-after_word c =
    let row = c.args.row.now in
    subst (Parts row) (sym c.from_residual.ensures) (λ one rest p. has_first row one rest p c.in_err-after_word.ensures)

pub returns-in_err-after_word-2 : goal.returns-in_err-after_word-2
returns-in_err-after_word-2 c =
    let row = c.args.row.now in
    subst (Parts row) (sym c.from_residual-in_err-after_word-2.ensures) (λ one rest p. has_second row one rest p c.in_ok-after_word.field-0.now c.in_ok-after_word.ensures c.in_err-after_word-2.ensures)

pub returns-in_err-rest : goal.returns-in_err-rest
returns-in_err-rest c =
    let row = c.args.row.now in
    let r = c.in_ok-after_word.field-0.now in
    let s = c.in_ok-after_word-2.field-0.now in
    subst (Parts row) (sym c.from_residual-in_err-rest.ensures) (λ one rest p. has_third row one rest p r s c.in_ok-after_word.ensures c.in_ok-after_word-2.ensures c.in_err-rest.ensures)

pub returns-in_err-other : goal.returns-in_err-other
returns-in_err-other c =
    let row = c.args.row.now in
    let r = c.in_ok-after_word.field-0.now in
    let s = c.in_ok-after_word-2.field-0.now in
    let u = c.in_ok-rest.rest.now in
    let mark = c.as_slice.result.now in
    let none : (rest : List ℕ) → c.as_bytes.result.now ≢ mark ++ rest = strip_prefix_is Decides-eqb c.as_bytes.result.now mark None c.in_err-other.ensures.cases in
    subst (Parts row) (sym c.from_residual-in_err-other.ensures)
    (λ one rest p. none rest (c.as_bytes.ensures.value ∙ after_third row one rest p r s u c.in_ok-after_word.ensures c.in_ok-after_word-2.ensures c.in_ok-rest.ensures ∙ ap (λ (m : List ℕ). m ++ rest) (sym c.as_slice.ensures)))

pub returns : goal.returns
returns c =
    let row = c.args.row.now in
    let r = c.in_ok-after_word.field-0.now in
    let s = c.in_ok-after_word-2.field-0.now in
    let u = c.in_ok-rest.rest.now in
    let other = c.in_ok-other.other in
    let w = c.in_ok-after_word.ensures in
    let v = c.in_ok-after_word-2.ensures in
    let x = c.in_ok-rest.ensures in
    let front : c.as_bytes.result.now ≡ c.as_slice.result.now ++ other.now = strip_prefix_is Decides-eqb c.as_bytes.result.now c.as_slice.result.now (Some other) c.in_ok-other.ensures.cases in
    let end : u ≡ codes "/ " ++ other.now = sym c.as_bytes.ensures.value ∙ front ∙ ap (λ (m : List ℕ). m ++ other.now) c.as_slice.ensures in
    let one = c.split_at.result.0.now in
    let size = length row - length u - 1 in
    are_parts row r s u other.now one w v x end (front_is row r s u one size w v x (c.split_at.ensures.front ∙ ap (take size) c.as_bytes-2.ensures.value) refl)
