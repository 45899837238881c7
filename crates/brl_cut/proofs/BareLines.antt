-- The lines of a text but for the places of their words, which come of its rows as lists of bytes.
use Rattle.std.proofs.Common.{◌≡◌, ◌∙◌, ◌+◌, ◌++◌, ◌==◌, ◌&&◌, ℕ, Bool, true, false, cond, if◌then◌else◌, List, [], ◌∷◌, ap, map, refl, sym}
use Rattle.std.specs.List.{enumerate_from, flat_map}
use Rattle.std.proofs.lemmas.List.{map-append}
use Rattle.std.proofs.lemmas.Simd.{map-map}
use Rattle.brl_lines.specs.Rows.{feed_is_next, onto, rows, rows_of}
use Rattle.brl_lines.specs.Tokens.{LineView, TokenView, gap_is_next, is_comment, is_gap, line_of, lines_in, token_of, tokens}

-- ---- Words and lines without places

-- a word without its place
abbrev pub word : List ℕ → TokenView
word text = record { text = text; start = 0 }

-- a line whose words have no places
abbrev pub bare : LineView → LineView
bare line = record { file = line.file; line = line.line; opcode = word line.opcode.text; operands = map (λ token. word token.text) line.operands }

-- the bytes of some with their places
abbrev pub bytes_of : List (ℕ × ℕ) → List ℕ
bytes_of row = map (λ b. b.1) row

bytes-onto : (b : ℕ × ℕ) (parts : List (List (ℕ × ℕ))) → map bytes_of (onto b parts) ≡ onto b.1 (map bytes_of parts)
bytes-onto b [] = refl
bytes-onto b (part ∷ parts) = refl

bytes-numbered : (n : ℕ) (bytes : List ℕ) → bytes_of (enumerate_from n bytes) ≡ bytes
bytes-numbered n [] = refl
bytes-numbered n (b ∷ bytes) = ap (λ bs. b ∷ bs) (bytes-numbered (n + 1) bytes)

-- ---- Rows of bytes

abbrev gap_follows : List ℕ → Bool
gap_follows [] = true
gap_follows (b ∷ bs) = is_gap b

-- the words of a row
abbrev pub words : List ℕ → List (List ℕ)
words [] = []
words (b ∷ bs) = if is_gap b then words bs else if gap_follows bs then (b ∷ []) ∷ words bs else onto b (words bs)

words-are : (row : List (ℕ × ℕ)) → map bytes_of (tokens row) ≡ words (bytes_of row)
words-are [] = refl
words-are (b ∷ bs) = by_tests (is_gap b.1) (gap_is_next bs) (gap_follows (bytes_of bs)) (same_gap bs) (words-are bs)
  where
    same_gap : (bs : List (ℕ × ℕ)) → gap_is_next bs ≡ gap_follows (bytes_of bs)
    same_gap [] = refl
    same_gap (b ∷ bs) = refl

    by_tests : (gap next follows : Bool) → next ≡ follows → map bytes_of (tokens bs) ≡ words (bytes_of bs)
        → map bytes_of (cond gap (tokens bs) (cond next ((b ∷ []) ∷ tokens bs) (onto b (tokens bs))))
        ≡ cond gap (words (bytes_of bs)) (cond follows ((b.1 ∷ []) ∷ words (bytes_of bs)) (onto b.1 (words (bytes_of bs))))
    by_tests true next follows same rest = rest
    by_tests false true follows same rest = ap (λ ws. (b.1 ∷ []) ∷ ws) rest ∙ ap (λ f. cond f ((b.1 ∷ []) ∷ words (bytes_of bs)) (onto b.1 (words (bytes_of bs)))) same
    by_tests false false follows same rest =
        bytes-onto b (tokens bs) ∙ ap (onto b.1) rest ∙ ap (λ f. cond f ((b.1 ∷ []) ∷ words (bytes_of bs)) (onto b.1 (words (bytes_of bs)))) same

-- the line of a row, if it does something
abbrev pub row_line : List ℕ → ℕ → List ℕ → List LineView
row_line file number row = line_of file number (map word (words row))

row_line-is : (file : List ℕ) (number : ℕ) (row : List (ℕ × ℕ)) → map bare (line_of file number (map token_of (tokens row))) ≡ row_line file number (bytes_of row)
row_line-is file number row =
    without_places (map token_of (tokens row))
    ∙ ap (line_of file number) (map-map (λ token. word token.text) token_of (tokens row) ∙ (λ j. map (λ token. text_is token j) (tokens row)) ∙ sym (map-map word bytes_of (tokens row)) ∙ ap (map word) (words-are row))
  where
    text_is : (token : List (ℕ × ℕ)) → word (token_of token).text ≡ word (bytes_of token)
    text_is [] = refl
    text_is (b ∷ bs) = refl

    without_places : (all : List TokenView) → map bare (line_of file number all) ≡ line_of file number (map (λ token. word token.text) all)
    without_places [] = refl
    without_places (first ∷ others) = by_test (is_comment first)
      where
        by_test : (b : Bool) → map bare (cond b [] (record { file = file; line = number; opcode = first; operands = others } ∷ []))
            ≡ cond b [] (record { file = file; line = number; opcode = word first.text; operands = map (λ token. word token.text) others } ∷ [])
        by_test true = refl
        by_test false = refl

-- a row that begins with `#` does nothing
pub comment-does-nothing : (file : List ℕ) (number : ℕ) (row : List ℕ) → row_line file number (35 ∷ row) ≡ []
comment-does-nothing file number row = by_test (gap_follows row) (words row)
  where
    by_test : (b : Bool) (others : List (List ℕ)) → line_of file number (map word (cond b ((35 ∷ []) ∷ others) (onto 35 others))) ≡ []
    by_test true others = refl
    by_test false [] = refl
    by_test false (next ∷ others) = refl

-- ---- Texts of bytes

abbrev pub feed_follows : List ℕ → Bool
feed_follows [] = false
feed_follows (b ∷ bs) = b == 10

-- the rows of a text
abbrev pub plain_rows : List ℕ → List (List ℕ)
plain_rows [] = []
plain_rows (b ∷ bs) = if b == 10 then [] ∷ plain_rows bs else if (b == 13) && feed_follows bs then plain_rows bs else onto b (plain_rows bs)

rows-are : (text : List (ℕ × ℕ)) → map bytes_of (rows text) ≡ plain_rows (bytes_of text)
rows-are [] = refl
rows-are (b ∷ bs) = by_tests (b.1 == 10) ((b.1 == 13) && feed_is_next bs) ((b.1 == 13) && feed_follows (bytes_of bs)) (ap (λ f. (b.1 == 13) && f) (same_feed bs)) (rows-are bs)
  where
    same_feed : (bs : List (ℕ × ℕ)) → feed_is_next bs ≡ feed_follows (bytes_of bs)
    same_feed [] = refl
    same_feed (b ∷ bs) = refl

    by_tests : (feed next follows : Bool) → next ≡ follows → map bytes_of (rows bs) ≡ plain_rows (bytes_of bs)
        → map bytes_of (cond feed ([] ∷ rows bs) (cond next (rows bs) (onto b (rows bs))))
        ≡ cond feed ([] ∷ plain_rows (bytes_of bs)) (cond follows (plain_rows (bytes_of bs)) (onto b.1 (plain_rows (bytes_of bs))))
    by_tests true next follows same rest = ap (λ rs. [] ∷ rs) rest
    by_tests false true follows same rest = rest ∙ ap (λ f. cond f (plain_rows (bytes_of bs)) (onto b.1 (plain_rows (bytes_of bs)))) same
    by_tests false false follows same rest =
        bytes-onto b (rows bs) ∙ ap (onto b.1) rest ∙ ap (λ f. cond f (plain_rows (bytes_of bs)) (onto b.1 (plain_rows (bytes_of bs)))) same

-- the lines of these rows; the first row has this number
abbrev pub row_lines : List ℕ → ℕ → List (List ℕ) → List LineView
row_lines file number found = flat_map (λ row. row_line file row.0 row.1) (enumerate_from number found)

row_lines-are : (file : List ℕ) (number : ℕ) (found : List (List (ℕ × ℕ)))
    → map bare (flat_map (λ row. line_of file row.0 (map token_of (tokens row.1))) (enumerate_from number found)) ≡ row_lines file number (map bytes_of found)
row_lines-are file number [] = refl
row_lines-are file number (row ∷ found) =
    map-append bare (line_of file number (map token_of (tokens row))) (flat_map (λ row. line_of file row.0 (map token_of (tokens row.1))) (enumerate_from (number + 1) found))
    ∙ (λ j. row_line-is file number row j ++ row_lines-are file (number + 1) found j)

-- the rows of a text
pub rows-of-text : (text : List ℕ) → map bytes_of (rows_of text) ≡ plain_rows text
rows-of-text text = rows-are (enumerate_from 0 text) ∙ ap plain_rows (bytes-numbered 0 text)

-- the lines of a text
pub lines-are : (file text : List ℕ) → map bare (lines_in file text) ≡ row_lines file 1 (plain_rows text)
unfolding lines_in
lines-are file text = row_lines-are file 1 (rows_of text) ∙ ap (row_lines file 1) (rows-of-text text)
