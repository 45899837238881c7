-- A notice is printed piece by piece.
use Rattle.std.proofs.Common.{◌≡◌, ◌∙◌, ℕ, List, [], ◌∷◌, ◌++◌, Some, append_assoc, refl, sym, codes}
use Rattle.std.specs.Fmt.{decimal}
use Rattle.std.specs.Prelude.{slice_get}
use Rattle.std.specs.Str.{encode_utf8_all}
use Rattle.brl_lines.specs.Spelling.{text_spelling}
use Rattle.brl_rules.specs.TableView.{TableView}
use Rattle.brl_rules.specs.declared.rule.Notice.{Notice}
use Rattle.brl_tool.specs.Notices.{notice_line}

pub notice_pieces : (t : TableView) (notice : Notice) (spelled file line : List ℕ)
    → spelled ≡ encode_utf8_all (text_spelling (notice.character ∷ [])) → slice_get t.files notice.file ≡ Some file → line ≡ decimal notice.line
    → codes "notice DefinedAgain " ++ (spelled ++ (codes " at " ++ (file ++ (codes ":" ++ (line ++ codes "\n"))))) ≡ notice_line t notice
notice_pieces t notice spelled file line s f l =
    sym (joined (codes "notice DefinedAgain ") spelled (codes " at ") file (codes ":") line (codes "\n")) ∙ rw (s, f, l) refl
  where
    joined : (a s b f c l d : List ℕ) → (((a ++ s) ++ b) ++ ((f ++ c) ++ l)) ++ d ≡ a ++ (s ++ (b ++ (f ++ (c ++ (l ++ d)))))
    joined a s b f c l d = simp append_assoc refl
