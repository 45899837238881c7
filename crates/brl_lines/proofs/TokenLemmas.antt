-- How the tokens of a row are cut, and that they are slices of the text.
use Rattle.std.proofs.Common.{◌≡◌, ℕ, zero, suc, ◌+◌, ◌-◌, ◌<◌, ◌≤◌, true, false, List, [], ◌∷◌, ◌++◌, length, get_or, take, drop, map, refl, ap, sym, ◌∙◌, arith, append_assoc, length-take, length-drop, IsUtf8}
use Rattle.std.proofs.lemmas.Str.{IsCharBoundary-after_ascii}
use Rattle.std.specs.List.{enumerate_from}
use Rattle.std.specs.Str.{IsCharBoundary}
use Rattle.brl_lines.specs.Rows.{piece}
use Rattle.brl_lines.specs.Tokens.{TokenView, token_of, tokens, is_gap, gap_is_next}
use Rattle.brl_lines.proofs.PieceLemmas.{piece_none, piece_step}

pub skip_one : (text : List ℕ) (i j : ℕ) → i < j → j ≤ length text → is_gap (get_or text i 0) ≡ true → tokens (piece text i j) ≡ tokens (piece text (i + 1) j)
skip_one text i j h l e = rw (piece_step text i j h l, e) refl

gap_at : (text : List ℕ) (d m j : ℕ) → j ≡ m + d → j ≤ length text → (m < j → is_gap (get_or text m 0) ≡ true) → gap_is_next (piece text m j) ≡ true
gap_at text zero m j e l gap = let same : m ≡ j = omega arith in rw (same, piece_none text j) refl
gap_at text (suc d) m j e l gap = let less : m < j = omega arith in rw (piece_step text m j less l) (gap less)

pub token_cut : (text : List ℕ) (k i m j : ℕ) → m ≡ i + suc k → m ≤ j → j ≤ length text → ((n : ℕ) → i ≤ n → n < m → is_gap (get_or text n 0) ≡ false)
    → (m < j → is_gap (get_or text m 0) ≡ true) → tokens (piece text i j) ≡ piece text i m ∷ tokens (piece text m j)
token_cut text zero i m j e h l marks gap =
    let same : i + 1 ≡ m = omega arith in
    let less : i < j = omega arith in
    let here : i < m = omega arith in
    let inside : m ≤ length text = omega arith in
    let mark = marks i (omega arith) here in
    let next = gap_at text (j - m) m j (omega arith) l gap in
    rw (piece_step text i j less l, piece_step text i m here inside, same, mark, next, piece_none text m) refl
token_cut text (suc k) i m j e h l marks gap =
    let less : i < j = omega arith in
    let here : i < m = omega arith in
    let inside : m ≤ length text = omega arith in
    let more : i + 1 < j = omega arith in
    let next : m ≡ (i + 1) + suc k = omega arith in
    let mark = marks i (omega arith) here in
    let mark_next = marks (i + 1) (omega arith) (omega arith) in
    let no_gap : gap_is_next (piece text (i + 1) j) ≡ false = rw (piece_step text (i + 1) j more l) mark_next in
    let others = token_cut text k (i + 1) m j next h l (λ n a b. marks n (omega arith) b) gap in
    rw (piece_step text i j less l, piece_step text i m here inside, mark, no_gap, others) refl

pub after_gap : (text : List ℕ) (i : ℕ) → IsUtf8 text → i < length text → is_gap (get_or text i 0) ≡ true → IsCharBoundary text (i + 1)
after_gap text i u h e = IsCharBoundary-after_ascii text i u h (grind (arith, e))

bytes_of_places : (n : ℕ) (xs : List ℕ) → map (λ c. c.1) (enumerate_from n xs) ≡ xs
bytes_of_places n [] = refl
bytes_of_places n (x ∷ xs) = ap (λ ys. x ∷ ys) (bytes_of_places (n + 1) xs)

token_of_places : (n : ℕ) (xs : List ℕ) → 0 < length xs → token_of (enumerate_from n xs) ≡ record { text = xs; start = n }
token_of_places n [] h = absurd (omega arith)
token_of_places n (x ∷ xs) h = ap (λ ys. record { text = x ∷ ys; start = n }) (bytes_of_places (n + 1) xs)

-- a token is the slice of the text at its start
pub token_of_piece : (text : List ℕ) (i j : ℕ) → i < j → j ≤ length text → token_of (piece text i j) ≡ record { text = take (j - i) (drop i text); start = i }
token_of_piece text i j h l = token_of_places i (take (j - i) (drop i text)) (simp (length-take, length-drop) (omega arith))

-- one more token is read
pub one_more : (so_far here others all : List TokenView) (t : TokenView) → so_far ++ here ≡ all → here ≡ t ∷ others → (so_far ++ t ∷ []) ++ others ≡ all
one_more so_far here others all t e f = append_assoc so_far (t ∷ []) others ∙ ap (λ ts. so_far ++ ts) (sym f) ∙ e

-- the first token of what is left of a row
pub first_token : (text slice : List ℕ) (i m j : ℕ) → i < m → m ≤ length text → slice ≡ take (m - i) (drop i text) → tokens (piece text i j) ≡ piece text i m ∷ tokens (piece text m j)
    → map token_of (tokens (piece text i j)) ≡ record { text = slice; start = i } ∷ map token_of (tokens (piece text m j))
first_token text slice i m j h l s cut =
    ap (map token_of) cut
    ∙ ap (λ (t : TokenView). t ∷ map token_of (tokens (piece text m j))) (token_of_piece text i m h l ∙ ap (λ (xs : List ℕ). record { text = xs; start = i }) (sym s))
