-- A text with the same lines as another, but for comments, is good where the other is, and has the
-- same lines that do something.
use Rattle.std.proofs.Common.{◌≡◌, ◌∙◌, ◌+◌, ◌++◌, ◌≤◌, ◌==◌, ◌&&◌, ◌||◌, ℕ, suc, Bool, true, false, cond, if◌then◌else◌, nat_le, nat_lt, List, [], ◌∷◌, ap, arith, length, map, refl, subst, sym, Option, Some, None, Ok, Err}
use Rattle.std.specs.Cmp.{first_so, second_so}
use Rattle.std.specs.List.{position_from}
use Rattle.std.specs.Str.{bytes_eq, is_utf8}
use Rattle.std.proofs.lemmas.Bool.{eqb-true}
use Rattle.std.proofs.lemmas.Bool.Decides.{nat_tests}
use Rattle.std.proofs.lemmas.List.{length-map}
use Rattle.std.proofs.lemmas.Slice.Eq.{bytes_eq-Decides}
use Rattle.brl_lines.specs.Answer.{most_file_bytes}
use Rattle.brl_lines.specs.Lines.{LocationView, is_long, long_row, most_row_bytes, refusal, text_in, unless_long}
use Rattle.brl_lines.specs.declared.fault.LoadFaultKind.TheVariants as kinds
use Rattle.brl_lines.specs.Rows.{onto, rows_of, without_mark}
use Rattle.brl_lines.specs.Tokens.{lines_in}
use Rattle.brl_cut.proofs.BareLines.{bare, bytes_of, comment-does-nothing, feed_follows, lines-are, plain_rows, row_line, row_lines, rows-of-text}
use Rattle.brl_cut.specs.Alike.{are_alike, are_comments, begins_comment, keeps_lines, stands_for}
use Rattle.brl_cut.specs.Edits.{whole_lines}

-- ---- The rows of whole lines

-- a line without its end
abbrev row_of : List ℕ → List ℕ
row_of [] = []
row_of (b ∷ bs) = if b == 10 then [] else if (b == 13) && feed_follows bs then [] else b ∷ row_of bs

-- the first line of a text begins as the text does
first_feed : (bs : List ℕ) (line : List ℕ) (lines : List (List ℕ)) → whole_lines bs ≡ line ∷ lines → feed_follows line ≡ feed_follows bs
first_feed [] line lines e = absurd cc
first_feed (b ∷ bs) line lines e = by_tests (b == 10) refl (whole_lines bs) e
  where
    by_tests : (feed : Bool) → (b == 10) ≡ feed → (rest : List (List ℕ)) → cond feed ((b ∷ []) ∷ rest) (onto b rest) ≡ line ∷ lines → feed_follows line ≡ (b == 10)
    by_tests true is rest f = let first : line ≡ b ∷ [] = cc in ap feed_follows first
    by_tests false is [] f = let first : line ≡ b ∷ [] = cc in ap feed_follows first
    by_tests false is (r ∷ rest) f = let first : line ≡ b ∷ r = cc in ap feed_follows first

-- one more byte
module _ (b : ℕ) (bs : List ℕ) (rest : plain_rows bs ≡ map row_of (whole_lines bs)) (returned : feed_follows bs ≡ true → plain_rows bs ≡ map row_of (onto 13 (whole_lines bs))) where
  grown : (lines : List (List ℕ)) → whole_lines bs ≡ lines → ((b == 13) && feed_follows bs) ≡ false → (b == 10) ≡ false → onto b (map row_of lines) ≡ map row_of (onto b lines)
  grown [] is plain no_feed = sym (ap (λ (x : Bool). cond x [] (cond ((b == 13) && false) [] (b ∷ [])) ∷ []) no_feed ∙ by_return (b == 13))
    where
      by_return : (x : Bool) → cond (x && false) [] (b ∷ []) ∷ [] ≡ (b ∷ []) ∷ []
      by_return true = refl
      by_return false = refl
  grown (line ∷ lines) is plain no_feed =
      sym (ap (λ (x : Bool). cond x [] (cond ((b == 13) && feed_follows line) [] (b ∷ row_of line)) ∷ map row_of lines) no_feed
      ∙ ap (λ (x : Bool). cond x [] (b ∷ row_of line) ∷ map row_of lines) (ap (λ f. (b == 13) && f) (first_feed bs line lines is) ∙ plain))

  by_return : (x : Bool) → ((b == 13) && feed_follows bs) ≡ x → (b == 10) ≡ false → cond x (plain_rows bs) (onto b (plain_rows bs)) ≡ map row_of (onto b (whole_lines bs))
  by_return true both no_feed =
      returned (second_so (b == 13) (feed_follows bs) both) ∙ ap (λ c. map row_of (onto c (whole_lines bs))) (sym (eqb-true b 13 (first_so (b == 13) (feed_follows bs) both)))
  by_return false plain no_feed = ap (onto b) rest ∙ grown (whole_lines bs) refl plain no_feed

  by_feed : (x : Bool) → (b == 10) ≡ x → cond x ([] ∷ plain_rows bs) (cond ((b == 13) && feed_follows bs) (plain_rows bs) (onto b (plain_rows bs))) ≡ map row_of (cond x ((b ∷ []) ∷ whole_lines bs) (onto b (whole_lines bs)))
  by_feed true is = rw is (ap (λ rs. [] ∷ rs) rest)
  by_feed false is = by_return ((b == 13) && feed_follows bs) refl is

  row-more : plain_rows (b ∷ bs) ≡ map row_of (whole_lines (b ∷ bs))
  row-more = by_feed (b == 10) refl

-- where a return and a feed end a row
returned : (c : ℕ) (cs : List ℕ) → (c == 10) ≡ true → plain_rows cs ≡ map row_of (whole_lines cs) → plain_rows (c ∷ cs) ≡ map row_of (onto 13 (whole_lines (c ∷ cs)))
returned c cs e rest = subst (λ d. plain_rows (d ∷ cs) ≡ map row_of (onto 13 (whole_lines (d ∷ cs)))) (sym (eqb-true c 10 e)) (ap (λ rs. [] ∷ rs) rest)

rows-of-lines : (text : List ℕ) → plain_rows text ≡ map row_of (whole_lines text)
rows-of-lines [] = refl
rows-of-lines (b ∷ []) = row-more b [] refl (λ e. absurd cc)
rows-of-lines (b ∷ c ∷ cs) = row-more b (c ∷ cs) (rows-of-lines (c ∷ cs)) (λ e. returned c cs e (rows-of-lines cs))

-- ---- Lines that stand for others

-- a comment does nothing
comment-is : (file : List ℕ) (number : ℕ) (line : List ℕ) → begins_comment line ≡ true → row_line file number (row_of line) ≡ []
comment-is file number [] e = refl
comment-is file number (b ∷ bs) e = rw (eqb-true b 35 e) (comment-does-nothing file number (row_of bs))

-- a row is no longer than its line
row-shorter : (line : List ℕ) → length (row_of line) ≤ length line
row-shorter [] = omega arith
row-shorter (b ∷ bs) = by_tests (b == 10) ((b == 13) && feed_follows bs) (row-shorter bs)
  where
    by_tests : (x y : Bool) → length (row_of bs) ≤ length bs → length (cond x [] (cond y [] (b ∷ row_of bs))) ≤ suc (length bs)
    by_tests true y rest = omega arith
    by_tests false true rest = omega arith
    by_tests false false rest = omega (arith, rest)

or-so : (a b : Bool) → a ≡ false → (a || b) ≡ true → b ≡ true
or-so true b first e = absurd cc
or-so false b first e = e

-- two lines that are comments
module _ (line other : List ℕ) (comments : are_comments line other ≡ true) where
  both : (begins_comment line && begins_comment other) ≡ true
  both = first_so (begins_comment line && begins_comment other) (nat_le (length other) most_row_bytes) comments

  was-comment : begins_comment line ≡ true
  was-comment = first_so (begins_comment line) (begins_comment other) both

  is-comment : begins_comment other ≡ true
  is-comment = second_so (begins_comment line) (begins_comment other) both

  is-short : nat_le (length other) most_row_bytes ≡ true
  is-short = second_so (begins_comment line && begins_comment other) (nat_le (length other) most_row_bytes) comments

-- a line in place of another that isn't a comment is that line
same-line : (line other : List ℕ) → stands_for line other ≡ true → are_comments line other ≡ false → other ≡ line
same-line line other stands plain = sym ((bytes_eq-Decides line other).0 (or-so (are_comments line other) (bytes_eq line other) plain stands))

-- the same lines that do something
same-lines : (file : List ℕ) (number : ℕ) (lines others : List (List ℕ)) → are_alike lines others ≡ true → row_lines file number (map row_of others) ≡ row_lines file number (map row_of lines)
same-lines file number [] [] e = refl
same-lines file number [] (other ∷ others) e = absurd cc
same-lines file number (line ∷ lines) [] e = absurd cc
same-lines file number (line ∷ lines) (other ∷ others) e =
    λ j. by_comments (are_comments line other) refl j ++ same-lines file (number + 1) lines others (second_so (stands_for line other) (are_alike lines others) e) j
  where
    stands : stands_for line other ≡ true
    stands = first_so (stands_for line other) (are_alike lines others) e

    by_comments : (comments : Bool) → are_comments line other ≡ comments → row_line file number (row_of other) ≡ row_line file number (row_of line)
    by_comments true is = comment-is file number other (is-comment line other is) ∙ sym (comment-is file number line (was-comment line other is))
    by_comments false is = ap (λ l. row_line file number (row_of l)) (same-line line other stands is)

-- the first of rows that is too long
abbrev long_from : ℕ → List (List ℕ) → Option ℕ
long_from number found = position_from (λ (row : List ℕ). nat_lt most_row_bytes (length row)) number found

-- none is too long where none of the others is
none-long : (number : ℕ) (lines others : List (List ℕ)) → are_alike lines others ≡ true → long_from number (map row_of lines) ≡ None → long_from number (map row_of others) ≡ None
none-long number [] [] e none = refl
none-long number [] (other ∷ others) e none = absurd cc
none-long number (line ∷ lines) [] e none = absurd cc
none-long number (line ∷ lines) (other ∷ others) e none =
    by_long (nat_lt most_row_bytes (length (row_of line))) refl none (none-long (number + 1) lines others (second_so (stands_for line other) (are_alike lines others) e))
  where
    stands : stands_for line other ≡ true
    stands = first_so (stands_for line other) (are_alike lines others) e

    short : nat_lt most_row_bytes (length (row_of line)) ≡ false → (comments : Bool) → are_comments line other ≡ comments → nat_lt most_row_bytes (length (row_of other)) ≡ false
    short is true comments =
        let small = is-short line other comments in
        let less = row-shorter other in
        grind (arith, nat_tests, small, less)
    short is false plain = ap (λ l. nat_lt most_row_bytes (length (row_of l))) (same-line line other stands plain) ∙ is

    by_long : (long : Bool) → nat_lt most_row_bytes (length (row_of line)) ≡ long → cond long (Some number) (long_from (number + 1) (map row_of lines)) ≡ None
        → (long_from (number + 1) (map row_of lines) ≡ None → long_from (number + 1) (map row_of others) ≡ None)
        → long_from number (map row_of (other ∷ others)) ≡ None
    by_long true is none rest = absurd cc
    by_long false is none rest =
        ap (λ b. cond b (Some number) (long_from (number + 1) (map row_of others))) (short is (are_comments line other) refl)
        ∙ rest none

long-is : (text : List ℕ) → long_row text ≡ long_from 1 (map row_of (whole_lines text))
long-is text = by_rows 1 (rows_of text) ∙ ap (long_from 1) (rows-of-text text ∙ rows-of-lines text)
  where
    by_rows : (number : ℕ) (found : List (List (ℕ × ℕ))) → position_from is_long number found ≡ long_from number (map bytes_of found)
    by_rows number [] = refl
    by_rows number (row ∷ found) = λ j. cond (nat_lt most_row_bytes (sym (length-map row (λ (b : ℕ × ℕ). b.1)) j)) (Some number) (by_rows (number + 1) found j)

-- ---- Texts

module _ (bytes other : List ℕ) (keeps : keeps_lines bytes other ≡ true) where
  small_and_good : (nat_le (length other) most_file_bytes && is_utf8 other) ≡ true
  small_and_good = first_so (nat_le (length other) most_file_bytes && is_utf8 other) (are_alike (whole_lines (without_mark bytes)) (whole_lines (without_mark other))) keeps

  alike : are_alike (whole_lines (without_mark bytes)) (whole_lines (without_mark other)) ≡ true
  alike = second_so (nat_le (length other) most_file_bytes && is_utf8 other) (are_alike (whole_lines (without_mark bytes)) (whole_lines (without_mark other))) keeps

  -- the same lines that do something
  pub keeps-lines : (file : List ℕ) → map bare (lines_in file (without_mark other)) ≡ map bare (lines_in file (without_mark bytes))
  keeps-lines file =
      lines-are file (without_mark other) ∙ ap (row_lines file 1) (rows-of-lines (without_mark other))
      ∙ same-lines file 1 (whole_lines (without_mark bytes)) (whole_lines (without_mark other)) alike
      ∙ sym (lines-are file (without_mark bytes) ∙ ap (row_lines file 1) (rows-of-lines (without_mark bytes)))

  -- it is good where the other is
  pub keeps-good : (path : List ℕ) (place : Option LocationView) (text : List ℕ) → text_in path place bytes ≡ Ok text → (text ≡ without_mark bytes) × (text_in path place other ≡ Ok (without_mark other))
  unfolding text_in
  keeps-good path place text is = by_tests (nat_lt most_file_bytes (length bytes)) (is_utf8 bytes) (long_row (without_mark bytes)) refl is
    where
      small : nat_lt most_file_bytes (length other) ≡ false
      small = let less = first_so (nat_le (length other) most_file_bytes) (is_utf8 other) small_and_good in grind (arith, nat_tests, less)

      good : is_utf8 other ≡ true
      good = second_so (nat_le (length other) most_file_bytes) (is_utf8 other) small_and_good

      by_tests : (large valid : Bool) (long : Option ℕ) → long_row (without_mark bytes) ≡ long
          → cond large (Err (refusal kinds.TooLarge path place)) (cond valid (unless_long path (without_mark bytes) long) (Err (refusal kinds.NotUtf8 path place))) ≡ Ok text
          → (text ≡ without_mark bytes) × (text_in path place other ≡ Ok (without_mark other))
      by_tests true valid long so f = absurd cc
      by_tests false false long so f = absurd cc
      by_tests false true (Some number) so f = absurd cc
      by_tests false true None so f =
          let none : long_row (without_mark other) ≡ None =
          long-is (without_mark other) ∙ none-long 1 (whole_lines (without_mark bytes)) (whole_lines (without_mark other)) alike (sym (long-is (without_mark bytes)) ∙ so) in
          let same : text ≡ without_mark bytes = cc in
          (same, rw (small, good, none) refl)
