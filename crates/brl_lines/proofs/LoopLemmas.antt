-- The rows of a file, added one after another.
use Rattle.std.proofs.Common.{◌≡◌, ℕ, ◌+◌, ◌-◌, ◌<◌, ◌≤◌, List, [], ◌∷◌, ◌++◌, length, ap, sym, ◌∙◌, subst, arith, append-nil, None, Option, Result, Err, Ok, Some}
use Rattle.std.proofs.lemmas.List.Concat.{flat_map-append}
use Rattle.std.specs.Global.{Vec}
use Rattle.std.specs.Prelude.{string_bytes}
use Rattle.std.specs.Str.{IsCharBoundary}
use Rattle.brl_failure.specs.declared.failure.Failure.{Failure}
use Rattle.brl_failure.specs.Failure.{◌>>=◌}
use Rattle.brl_lines.specs.Answer.{FileAnswer, FileAnswers}
use Rattle.brl_lines.specs.Files.{Files, lines_at, span_lines, text_at}
use Rattle.brl_lines.specs.Gathered.{walk_view, walk_with}
use Rattle.brl_lines.specs.Lines.{LocationView, Refusal, Take, Walk, expanded, location_of}
use Rattle.brl_lines.specs.Rows.{piece}
use Rattle.brl_lines.specs.Steps.{AreSpans, Expands, Extends, Fails, FailsFrom, Grows, IsKindOf, IsOpen, IsReady, IsRow, IsSpan, Takes, Wants, lines_from, take_in, walk_if, walk_in}
use Rattle.brl_lines.specs.Tokens.{LineView}
use Rattle.brl_lines.specs.declared.expand.Expansion.{Expansion}
use Rattle.brl_lines.specs.declared.fault.LoadFault.{LoadFault}
use Rattle.brl_lines.specs.declared.include.IncludeLine.{IncludeLine}
use Rattle.brl_lines.specs.declared.open_file.OpenFile.{OpenFile}
use Rattle.brl_lines.specs.declared.row.FileRow.{FileRow}
use Rattle.brl_lines.specs.declared.row.RowKind.{RowKind}
use Rattle.brl_lines.specs.declared.row.RowKind.TheVariants.{Include, Line, Nothing}
use Rattle.brl_lines.specs.declared.span.LineSpan.{LineSpan}
use Rattle.brl_lines.specs.declared.way.Policy.{Policy}
use Rattle.brl_lines.proofs.ExpandLemmas.{fails-later, fails-more, row-include, row-line, row-nothing}
use Rattle.brl_lines.proofs.FileLemmas.{extends-older, grows-none, grows-twice, lines_at-grows, open-grows, spans-grow, text_at-grows, text_at-small}
use Rattle.brl_lines.proofs.LineLemmas.{lines_from-end, lines_from-whole}

-- a span more
spans-push : (files : Files) (spans : List LineSpan) (span : LineSpan) → AreSpans files spans → IsSpan files span → AreSpans files (spans ++ span ∷ [])
spans-push files [] span h k = (k, tt)
spans-push files (other ∷ spans) span h k = (h.0, spans-push files spans span h.1 k)

pub lines_at-push : (files : Files) (spans : List LineSpan) (span : LineSpan) → lines_at files (spans ++ span ∷ []) ≡ lines_at files spans ++ span_lines files span
lines_at-push files spans span = flat_map-append (span_lines files) spans (span ∷ []) ∙ ap (λ (lines : List LineView). lines_at files spans ++ lines) (append-nil (span_lines files span))

-- the place of an include line
place-is : (line : LineView) (file : List ℕ) (number same : ℕ) → line.file ≡ file → line.line ≡ number → same ≡ number → location_of line ≡ record { file = file; line = same }
place-is line file number same f n s = ap (λ (x : List ℕ). the_place x line.line) f ∙ ap (the_place file) (n ∙ sym s)
  where
    the_place : List ℕ → ℕ → LocationView
    the_place x k = record { file = x; line = k }

module _ (gives : FileAnswers) (policy : Policy) (root : List ℕ) (file : OpenFile) (old : Expansion) where
  abbrev text : List ℕ
  text = text_at old.files.entries file.index

  -- what is left of the text, from a place on
  abbrev left : ℕ → ℕ → List LineView
  left number at = lines_from (string_bytes file.path) number (piece text at (length text))

  abbrev takes : (List ℕ → Option FileAnswer) → Take
  takes answer = take_in policy gives.folders root file answer

  abbrev whole : (List ℕ → Option FileAnswer) → Result Walk Refusal
  whole answer = walk_in policy gives.folders root file text answer (walk_view old)

  -- the text may be cut at a place before which there are fewer rows than this number
  pub record IsPlace (number at : ℕ) : Type 0 where
    pub boundary : IsCharBoundary text at
    pub within : at ≤ length text
    pub few : number ≤ at + 1

  -- the rows up to a place were added
  pub record Added (now : Expansion) (number at : ℕ) : Type 0 where
    pub place : IsPlace number at
    pub grows : Grows gives old.files.entries now.files.entries
    pub spans : AreSpans now.files.entries now.spans.items
    pub so_far : (answer : List ℕ → Option FileAnswer) → Extends now.files.entries answer → expanded (takes answer) (left number at) (walk_view now) ≡ whole answer

  module _ (ready : IsReady gives old file) where
    -- none yet
    pub added-none : Added old 1 0
    added-none = record {
      place = record { boundary = (text_at-small old.files.entries file.index).1; within = omega arith; few = omega arith };
      grows = grows-none gives old.files.entries ready.given;
      spans = ready.spans;
      so_far = λ answer extends. ap (λ (lines : List LineView). expanded (takes answer) lines (walk_view old)) (lines_from-whole (string_bytes file.path) text);
    }

    module _ (now : Expansion) (number at : ℕ) (added : Added now number at) where
      same_text : text_at now.files.entries file.index ≡ text
      same_text = text_at-grows gives old.files.entries now.files.entries added.grows file.index ready.opened.within

      -- the file is still there, and its text
      pub still-open : IsOpen now.files.entries file
      still-open = open-grows gives old.files.entries now.files.entries added.grows file ready.opened

      pub still-within : at ≤ length (text_at now.files.entries file.index)
      still-within = subst (λ (t : List ℕ). at ≤ length t) (sym same_text) added.place.within

      pub still-boundary : IsCharBoundary (text_at now.files.entries file.index) at
      still-boundary = subst (λ (t : List ℕ). IsCharBoundary t at) (sym same_text) added.place.boundary

      -- the rows are few
      pub number-small : number < 4294967295
      number-small = let small = text_at-small old.files.entries file.index in omega (arith, small.0, added.place.within, added.place.few)

      -- all of them
      pub added-all : at ≡ length (text_at now.files.entries file.index) → Expands gives old now (walk_in policy gives.folders root file text)
      added-all ends = record {
        grows = added.grows;
        spans = added.spans;
        goes = λ answer extends.
            sym (added.so_far answer extends)
            ∙ ap (λ (lines : List LineView). expanded (takes answer) lines (walk_view now)) (lines_from-end (string_bytes file.path) number text at (ends ∙ ap length same_text));
      }

      -- one row more
      module _ (row : FileRow) (is : IsRow now.files.entries file number at row) where
        pub row-within : row.next ≤ length text
        row-within = subst (λ (t : List ℕ). row.next ≤ length t) same_text is.within

        pub row-smaller : length text - row.next < length text - at
        row-smaller = omega (arith, is.after, row-within)

        row-place : IsPlace (number + 1) row.next
        row-place =
            record {
              boundary = subst (λ (t : List ℕ). IsCharBoundary t row.next) same_text is.boundary;
              within = row-within;
              few = omega
                  (arith, is.after, added.place.few);
            }

        cut : left number at ≡ span_lines now.files.entries row.span ++ left (number + 1) row.next
        cut = subst
            (λ (t : List ℕ). lines_from (string_bytes file.path) number (piece t at (length t))
            ≡ span_lines now.files.entries row.span ++ lines_from (string_bytes file.path) (number + 1) (piece t row.next (length t)))
            same_text is.left

        kind_is : (kind : RowKind) → row.kind ≡ kind → IsKindOf (string_bytes file.path) number (span_lines now.files.entries row.span) kind
        kind_is kind e = subst (IsKindOf (string_bytes file.path) number (span_lines now.files.entries row.span)) e is.kind

        -- it does nothing
        pub added-nothing : row.kind ≡ Nothing → Added now (number + 1) row.next
        added-nothing e = record {
          place = row-place;
          grows = added.grows;
          spans = added.spans;
          so_far = λ answer extends.
              row-nothing (takes answer) (walk_view now) (left number at) (span_lines now.files.entries row.span) (left (number + 1) row.next) (whole answer) cut (added.so_far answer extends) (kind_is Nothing e);
        }

        -- it is a line
        pub added-line : row.kind ≡ Line → (spans : Vec LineSpan) → spans.items ≡ now.spans.items ++ row.span ∷ []
            → Added (record { files = now.files; spans = spans; way = now.way }) (number + 1) row.next
        added-line e spans pushed =
            let kind = kind_is Line e in
            record {
              place = row-place;
              grows = added.grows;
              spans = subst (AreSpans now.files.entries) (sym pushed) (spans-push now.files.entries now.spans.items row.span added.spans is.span);
              so_far = λ answer extends.
                  ap (λ (lines : List LineView). expanded (takes answer) (left (number + 1) row.next) (walk_with lines now.way))
                  (ap (lines_at now.files.entries) pushed ∙ lines_at-push now.files.entries now.spans.items row.span)
                  ∙ row-line (takes answer) (walk_view now) (left number at) (span_lines now.files.entries row.span) (left (number + 1) row.next) (whole answer) cut (added.so_far answer extends) kind.0 kind.1 kind.2;
            }

        -- it is an include line
        module _ (include : IncludeLine) (e : row.kind ≡ Include include) where
          abbrev place : LocationView
          place = record { file = string_bytes file.path; line = include.line }

          abbrev wants : Wants
          wants answer = takes answer place (string_bytes include.name)

          rest_is : (answer : List ℕ → Option FileAnswer) → Extends now.files.entries answer → (r : Result Walk Refusal) → wants answer (walk_view now) ≡ r
              → (r >>= λ next. expanded (takes answer) (left (number + 1) row.next) next) ≡ whole answer
          rest_is answer extends r h =
              let kind = kind_is (Include include) e in
              row-include (takes answer) (walk_view now) (left number at) (span_lines now.files.entries row.span) (left (number + 1) row.next) (whole answer) cut (added.so_far answer extends) kind.0 kind.1
              (string_bytes include.name) kind.2 place (place-is kind.0 (string_bytes file.path) number include.line kind.3 kind.4 kind.5) r h

          -- its file is refused
          pub refused-include : (failure : Failure LoadFault) → FailsFrom gives now wants failure → Fails gives old.files.entries whole failure
          refused-include failure h =
              fails-later gives old.files.entries now.files.entries added.grows whole failure
              (fails-more gives now.files.entries (λ answer. wants answer (walk_view now)) whole failure (λ answer d extends no. sym (rest_is answer extends (Err d) no)) (h (lines_at now.files.entries now.spans.items)))

          module _ (entered : Expansion) (inner : Option OpenFile) (takes_on : Takes gives policy root file now entered wants inner) where
            both : Grows gives old.files.entries entered.files.entries
            both = grows-twice gives old.files.entries now.files.entries entered.files.entries added.grows takes_on.grows

            older : (answer : List ℕ → Option FileAnswer) → Extends entered.files.entries answer → Extends now.files.entries answer
            older = extends-older gives now.files.entries entered.files.entries takes_on.grows

            spans_are : entered.spans.items ≡ now.spans.items
            spans_are = ap (λ (spans : Vec LineSpan). spans.items) takes_on.spans

            pub inner-spans : AreSpans entered.files.entries entered.spans.items
            inner-spans = subst (AreSpans entered.files.entries) (sym spans_are) (spans-grow gives now.files.entries entered.files.entries takes_on.grows now.spans.items added.spans)

            -- the walk goes on from the lines so far
            goes_on : (answer : List ℕ → Option FileAnswer) → Extends entered.files.entries answer → wants answer (walk_view now) ≡ walk_if policy gives.folders root entered.files.entries inner answer (walk_view entered)
            goes_on answer extends =
                let lines : lines_at entered.files.entries entered.spans.items ≡ lines_at now.files.entries now.spans.items =
                ap (lines_at entered.files.entries) spans_are ∙ lines_at-grows gives now.files.entries entered.files.entries takes_on.grows now.spans.items added.spans in
                takes_on.goes answer extends (lines_at now.files.entries now.spans.items)
                ∙ ap (λ (ls : List LineView). walk_if policy gives.folders root entered.files.entries inner answer (walk_with ls entered.way)) (sym lines)

            -- past the line
            pub added-past : inner ≡ None → Added entered (number + 1) row.next
            added-past none = record {
              place = row-place;
              grows = both;
              spans = inner-spans;
              so_far = λ answer extends.
                  rest_is answer (older answer extends) (Ok (walk_view entered))
                  (goes_on answer extends ∙ ap (λ (i : Option OpenFile). walk_if policy gives.folders root entered.files.entries i answer (walk_view entered)) none);
            }

            module _ (file_in : OpenFile) (some : inner ≡ Some file_in) where
              abbrev inside : (List ℕ → Option FileAnswer) → Walk → Result Walk Refusal
              inside = walk_in policy gives.folders root file_in (text_at entered.files.entries file_in.index)

              goes_in : (answer : List ℕ → Option FileAnswer) → Extends entered.files.entries answer → wants answer (walk_view now) ≡ inside answer (walk_view entered)
              goes_in answer extends = goes_on answer extends ∙ ap (λ (i : Option OpenFile). walk_if policy gives.folders root entered.files.entries i answer (walk_view entered)) some

              -- the lines of its file are refused
              pub refused-inner : (failure : Failure LoadFault) → Fails gives entered.files.entries (λ answer. inside answer (walk_view entered)) failure → Fails gives old.files.entries whole failure
              refused-inner failure h =
                  fails-later gives old.files.entries entered.files.entries both whole failure
                  (fails-more gives entered.files.entries (λ answer. inside answer (walk_view entered)) whole failure
                  (λ answer d extends no. sym (rest_is answer (older answer extends) (Err d) (goes_in answer extends ∙ no))) h)

              -- or were added
              pub added-inner : (new : Expansion) → Expands gives entered new inside → Added new (number + 1) row.next
              added-inner new expands = record {
                place = row-place;
                grows = grows-twice gives old.files.entries entered.files.entries new.files.entries both expands.grows;
                spans = expands.spans;
                so_far = λ answer extends.
                    (let known = extends-older gives entered.files.entries new.files.entries expands.grows answer extends in
                    rest_is answer (older answer known) (Ok (walk_view new)) (goes_in answer known ∙ expands.goes answer extends));
              }
