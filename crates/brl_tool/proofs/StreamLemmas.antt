-- The line of a character that is listed as lacking.
use Rattle.std.proofs.Common.{◌≡◌, ◌∙◌, append_assoc, ℕ, List, [], ◌∷◌, ◌++◌, codes, refl, sym}
use Rattle.std.specs.Fmt.{decimal}
use Rattle.std.specs.Str.{encode_utf8_all}
use Rattle.brl_lines.specs.Visible.{visible_text}
use Rattle.brl_stream.specs.declared.lacking.Lacking.{Lacking}
use Rattle.brl_tool.specs.Streams.{code_point, lacking_line}

-- the line of a character is printed piece by piece
pub lacking_pieces : (lacking : Lacking) (spelled code count line : List ℕ) → spelled ≡ encode_utf8_all (visible_text (lacking.character ∷ [])) → code ≡ code_point lacking.character → count ≡ decimal lacking.count → line ≡ decimal lacking.line
    → codes "lacking " ++ (spelled ++ (codes " " ++ (code ++ (codes ": count " ++ (count ++ (codes ", first line " ++ (line ++ codes "\n"))))))) ≡ lacking_line lacking
lacking_pieces lacking spelled code count line s o n l =
    sym (joined (codes "lacking ") spelled (codes " ") code (codes ": count ") count (codes ", first line ") line (codes "\n")) ∙ rw (s, o, n, l) refl
  where
    joined : (a s b o c n d l e : List ℕ) → (((((((a ++ s) ++ b) ++ o) ++ c) ++ n) ++ d) ++ l) ++ e ≡ a ++ (s ++ (b ++ (o ++ (c ++ (n ++ (d ++ (l ++ e)))))))
    joined a s b o c n d l e = simp append_assoc refl
