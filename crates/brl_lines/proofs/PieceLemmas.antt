-- Pieces of a text: where they are empty, their first byte, two of them joined.
use Rattle.std.proofs.Common.{◌≡◌, ℕ, zero, suc, ◌+◌, ◌-◌, ◌<◌, ◌≤◌, List, [], ◌∷◌, ◌++◌, length, get_or, take, drop, refl, ap, sym, ◌∙◌, arith, add-one, take_all}
use Rattle.std.proofs.Math.Seq.{drop-cons}
use Rattle.std.specs.List.{enumerate_from}
use Rattle.brl_lines.specs.Rows.{piece}

pub piece_none : (text : List ℕ) (i : ℕ) → piece text i i ≡ []
piece_none text i = let e : i - i ≡ 0 = omega arith in rw e refl

piece_at : (text : List ℕ) (i j n : ℕ) → j - i ≡ suc n → i < length text → piece text i j ≡ (i, get_or text i 0) ∷ enumerate_from (i + 1) (take n (drop (suc i) text))
piece_at text i j n e h = rw (e, drop-cons text i 0) refl

pub piece_step : (text : List ℕ) (i j : ℕ) → i < j → j ≤ length text → piece text i j ≡ (i, get_or text i 0) ∷ piece text (i + 1) j
piece_step text i j h l =
    let e : j - i ≡ suc (j - (i + 1)) = omega arith in
    piece_at text i j (j - (i + 1)) e (omega arith) ∙ ap (λ n. (i, get_or text i 0) ∷ enumerate_from (i + 1) (take (j - (i + 1)) (drop n text))) (sym (add-one i))

-- two parts of a piece
pub piece_parts : (text : List ℕ) (k i m j : ℕ) → m ≡ i + k → m ≤ j → j ≤ length text → piece text i j ≡ piece text i m ++ piece text m j
piece_parts text zero i m j e h l =
    let same : m ≡ i = omega arith in
    rw (same, piece_none text i) refl
piece_parts text (suc k) i m j e h l =
    let here : i < m = omega arith in
    let more : i < j = omega arith in
    let inside : m ≤ length text = omega arith in
    let next : m ≡ (i + 1) + k = omega arith in
    piece_step text i j more l ∙ ap (λ xs. (i, get_or text i 0) ∷ xs) (piece_parts text k (i + 1) m j next h l)
    ∙ sym (ap (λ xs. xs ++ piece text m j) (piece_step text i m here inside))

-- the whole text as a piece
pub piece_whole : (text : List ℕ) → piece text 0 (length text) ≡ enumerate_from 0 text
piece_whole text = ap (enumerate_from 0) (take_all (length text - 0) text (omega arith))
