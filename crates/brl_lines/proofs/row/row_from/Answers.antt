use Rattle.std.proofs.Common.{◌≡◌, ◌∙◌, ◌+◌, ◌++◌, ◌∷◌, ℕ, List, length, map, string_bytes, ap, sym, subst, arith}
use Rattle.std.specs.Str.{IsCharBoundary}
use Rattle.brl_lines.specs.Files.{text_at}
use Rattle.brl_lines.specs.Rows.{piece, rows}
use Rattle.brl_lines.specs.Steps.{IsKindOf, lines_from}
use Rattle.brl_lines.specs.Tokens.{line_of, token_of, tokens}
use Rattle.brl_lines.proofs.FileLemmas.{text-at}
use Rattle.brl_lines.proofs.LineLemmas.{lines_from-row}
use Rattle.brl_lines.proofs.row.row_from.Goals as goal

pub returns-then-from-text : goal.returns-then-from-text
returns-then-from-text c =
    let text_is = c.text_of_file-text.ensures.text ∙ text-at c.args.files.now.entries c.args.file.now.index c.index.result.now c.index.ensures in
    c.if-from-text.true ∙ ap length text_is

pub row_at-row-requires-clause-inside : goal.row_at-row-requires-clause-inside
row_at-row-requires-clause-inside c =
    let text_is = c.text_of_file-text.ensures.text ∙ text-at c.args.files.now.entries c.args.file.now.index c.index.result.now c.index.ensures in
    let same : length c.text_of_file-text.result.now ≡ length (text_at c.args.files.now.entries c.args.file.now.index) = ap length text_is in
    let within = c.requires.within in
    omega (arith, same, within)

pub row_at-row-requires-clause-boundary : goal.row_at-row-requires-clause-boundary
row_at-row-requires-clause-boundary c =
    let text_is = c.text_of_file-text.ensures.text ∙ text-at c.args.files.now.entries c.args.file.now.index c.index.result.now c.index.ensures in
    subst (λ (t : List ℕ). IsCharBoundary t c.args.from) (sym text_is) c.requires.boundary

pub row_kind-requires-clause-from_boundary : goal.row_kind-requires-clause-from_boundary
row_kind-requires-clause-from_boundary c =
    let text_is = c.text_of_file-text.ensures.text ∙ text-at c.args.files.now.entries c.args.file.now.index c.index.result.now c.index.ensures in
    subst (λ (t : List ℕ). IsCharBoundary t c.args.from) (sym text_is) c.requires.boundary

pub returns : goal.returns
returns c =
    let text_is = c.text_of_file-text.ensures.text ∙ text-at c.args.files.now.entries c.args.file.now.index c.index.result.now c.index.ensures in
    let text = text_at c.args.files.now.entries c.args.file.now.index in
    let path = string_bytes c.args.file.now.path in
    let from = c.args.from in
    let to = c.row_at-row.result.to in
    let next = c.row_at-row.result.next in
    let size : length c.text_of_file-text.result.now ≡ length text = ap length text_is in
    let row = c.row_at-row.ensures in
    let cuts : rows (piece text from (length text)) ≡ piece text from to ∷ rows (piece text next (length text)) =
    subst (λ (t : List ℕ). rows (piece t from (length t)) ≡ piece t from to ∷ rows (piece t next (length t))) text_is row.cuts in
    record {
      after = row.on;
      within = omega (arith, size, row.within);
      boundary = subst (λ (t : List ℕ). IsCharBoundary t next) text_is row.next_boundary;
      span = record {
        file = c.requires.opened.within;
        range = row.from;
        within = omega (arith, size, row.within, row.to);
        from_boundary = c.requires.boundary;
        to_boundary = subst (λ (t : List ℕ). IsCharBoundary t to) text_is row.to_boundary;
      };
      kind = subst (λ (p : List ℕ). IsKindOf path c.args.number (line_of p c.args.number (map token_of (tokens (piece text from to)))) c.in_ok-kind.kind) (sym c.requires.opened.path)
          (subst (λ (t : List ℕ). IsKindOf path c.args.number (line_of path c.args.number (map token_of (tokens (piece t from to)))) c.in_ok-kind.kind) text_is
          (subst (λ (p : List ℕ). IsKindOf p c.args.number (line_of p c.args.number (map token_of (tokens (piece c.text_of_file-text.result.now from to)))) c.in_ok-kind.kind) c.as_str.ensures.value c.in_ok-kind.ensures));
      left = lines_from-row path c.args.number (piece text from (length text)) (piece text from to) (piece text next (length text)) cuts
          ∙ ap (λ (p : List ℕ). line_of p c.args.number (map token_of (tokens (piece text from to))) ++ lines_from path (c.args.number + 1) (piece text next (length text))) (sym c.requires.opened.path);
    }
