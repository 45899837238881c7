-- Steps of the loops over capitals and over texts of capitals.
use Rattle.std.proofs.Common.{◌≡◌, ℕ, suc, ◌+◌, ◌-◌, ◌<◌, ◌≤◌, List, [], ◌∷◌, ◌++◌, length, drop, get_or, map, refl, sym, ap, ap₂, ◌∙◌, arith, drop-cons, drop_of_length-le}
use Rattle.std.specs.List.{flat_map}
use Rattle.brl_rules.specs.TableView.{TableView}
use Rattle.brl_dues.specs.CapitalList.{capital_of, put_at}
use Rattle.brl_dues.specs.Capitals.{capitals, choices, put_capital}

-- a capital's fold is that of its character
pub put-same : (t : TableView) (a : ℕ) (texts : List (List ℕ)) (cs : List ℕ) → flat_map (put_at a texts) (map (capital_of t) cs) ≡ flat_map (put_capital t a texts) cs
put-same t a texts [] = refl
put-same t a texts (c ∷ cs) = ap (λ l. put_capital t a texts c ++ l) (put-same t a texts cs)

-- ---- The characters of a rule, from the last to the first

pub choices-none : (t : TableView) (chars : List ℕ) (texts : List (List ℕ)) → texts ≡ [] ∷ [] → texts ≡ choices t (drop (length chars - 0) chars)
choices-none t chars texts e = e ∙ ap (choices t) (sym (drop_of_length-le chars (omega arith)))

pub choices-next : (t : TableView) (chars : List ℕ) (done a d : ℕ) (texts new : List (List ℕ)) → done < length chars → a ≡ get_or chars (length chars - 1 - done) d
    → texts ≡ choices t (drop (length chars - done) chars) → new ≡ flat_map (put_capital t a texts) (capitals t) → new ≡ choices t (drop (length chars - (done + 1)) chars)
choices-next t chars done a d texts new h is had gave =
    let place = length chars - 1 - done in
    let within : place < length chars = omega (arith, h) in
    let later : suc place ≡ length chars - done = omega (arith, h) in
    let same : length chars - (done + 1) ≡ place = omega (arith, h) in
    gave
    ∙ ap₂ (λ x l. flat_map (put_capital t x l) (capitals t)) is (had ∙ ap (λ n. choices t (drop n chars)) (sym later))
    ∙ ap (choices t) (sym (drop-cons chars place d within))
    ∙ ap (λ n. choices t (drop n chars)) (sym same)

pub choices-all : (t : TableView) (chars : List ℕ) (done : ℕ) (texts : List (List ℕ)) → length chars ≤ done → texts ≡ choices t (drop (length chars - done) chars) → texts ≡ choices t chars
choices-all t chars done texts h had = had ∙ ap (λ n. choices t (drop n chars)) (let e : length chars - done ≡ 0 = omega (arith, h) in e)
