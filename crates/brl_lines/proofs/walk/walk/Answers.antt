use Rattle.std.proofs.Common.{◌≡◌, ◌∙◌, ℕ, List, None, Option, ap, refl, string_bytes, subst, sym}
use Rattle.std.proofs.lemmas.Result.{err_from_is_err_and}
use Rattle.brl_lines.specs.Answer.{FileAnswer}
use Rattle.brl_lines.specs.Files.{answers_of, lines_at, text_at}
use Rattle.brl_lines.specs.Gathered.{walk_view, way_view}
use Rattle.brl_lines.specs.Includes.{found, last_part}
use Rattle.brl_lines.specs.Lines.{answer_at, no_way, refusal, text_of, walk_over, with_file}
use Rattle.brl_lines.specs.Steps.{AreSpans}
use Rattle.brl_lines.specs.declared.expand.Expansion.{Expansion}
use Rattle.brl_lines.specs.declared.fault.LoadFaultKind.TheVariants as kinds
use Rattle.brl_lines.specs.declared.open_file.OpenFile.{OpenFile}
use Rattle.brl_lines.proofs.ExpandLemmas.{fails-for, fails-later, fails-more}
use Rattle.brl_lines.proofs.FileLemmas.{extends-older}
use Rattle.brl_lines.proofs.WalkLemmas.{root-lines, root-refused, walk-stops}
use Rattle.brl_lines.proofs.walk.walk.Goals as goal

pub returns-in_err-path-clause-err : goal.returns-in_err-path-clause-err
returns-in_err-path-clause-err g c =
    let gives = g.S.Source.gives c.args.source.now in
    let root = c.args.root.now in
    let failure = c.in_err-path.field-0.0 in
    let p = err_from_is_err_and c.from_residual.result c.from_residual.ensures.1 in
    rw (p.1, p.2)
    (walk-stops gives c.args.policy c.new.result.entries root failure
    (fails-more gives c.new.result.entries _ (λ answer. walk_over c.args.policy gives.folders answer root) failure
    (λ answer e extends no. root-refused c.args.policy gives.folders answer root (found gives.folders answer root root) refl e no) c.in_err-path.ensures.err))

pub returns-in_default-clause-err : goal.returns-in_default-clause-err
returns-in_default-clause-err g c =
    let gives = g.S.Source.gives c.args.source.now in
    let root = c.args.root.now in
    let files = c.locate.new.files.entries in
    let locates = c.in_ok-path.ensures.ok in
    let answer = answer_at (answers_of files) in
    let path = string_bytes c.in_ok-path.path in
    let missing = rw c.as_str-at.ensures.value at c.in_default.ensures in
    let whole = λ (answer : List ℕ → Option FileAnswer). walk_over c.args.policy gives.folders answer root in
    walk-stops gives c.args.policy c.new.result.entries root c.refusal.result
    (fails-later gives c.new.result.entries files locates.grows whole c.refusal.result
    (fails-for gives files whole (refusal kinds.NotFound path None) c.refusal.result locates.grows.given
    (root-refused c.args.policy gives.folders answer root path (locates.first_is answer (λ p a e. e)) (refusal kinds.NotFound path None)
    (ap (text_of path None) missing))
    (λ e. cc) (rw c.as_str-at.ensures.value at c.refusal.ensures)))

pub expand-requires : goal.expand-requires
expand-requires g c =
    let finds = c.in-Some.ensures in
    record {
      given = rw c.in_ok-path.ensures.same c.in_ok-path.ensures.ok.grows.given;
      opened = record { within = finds.within; path = finds.path_is ∙ c.as_str-at.ensures.value };
      spans = subst (AreSpans c.locate.new.files.entries) (sym c.new-2.ensures.items) tt;
    }

pub returns-in_err-expand-clause-err : goal.returns-in_err-expand-clause-err
returns-in_err-expand-clause-err g c =
    let gives = g.S.Source.gives c.args.source.now in
    let root = c.args.root.now in
    let files = c.locate.new.files.entries in
    let path = string_bytes c.in_ok-path.path in
    let file : OpenFile = record { index = c.in-Some.index; path = c.in_ok-path.path; includers = c.new-4.result; depth_left = 15 } in
    let table : Expansion = record { files = c.locate.new.files; spans = c.new-2.result; way = c.add_file.new.self } in
    let failure = c.in_err-expand.field-0.0 in
    let locates = c.in_ok-path.ensures.ok in
    let finds = rw c.as_str-at.ensures.value at c.in-Some.ensures in
    let way : way_view c.add_file.new.self ≡ with_file path (last_part root) no_way =
    c.in_ok-add_file.ensures ∙ (λ j. with_file (c.as_str-at.ensures.value j) (c.last_part.ensures j) (c.new-3.ensures j)) in
    let p = err_from_is_err_and c.from_residual-in_err-expand.result c.from_residual-in_err-expand.ensures.1 in
    rw (p.1, p.2)
    (walk-stops gives c.args.policy c.new.result.entries root failure
    (fails-later gives c.new.result.entries files locates.grows (λ answer. walk_over c.args.policy gives.folders answer root) failure
    (fails-more gives files _ (λ answer. walk_over c.args.policy gives.folders answer root) failure
    (λ answer e extends no.
    root-lines c.args.policy gives.folders answer root path (locates.first_is answer extends) (text_at files c.in-Some.index) c.as_str-top.result.now file
    (walk_view table) (finds.text_is answer extends None)
    c.as_str-top.ensures.value refl c.new-4.ensures.items refl (ap (lines_at files) c.new-2.ensures.items) way ∙ no)
    (rw c.in_ok-path.ensures.same at c.in_err-expand.ensures.err))))

pub returns-clause-ok : goal.returns-clause-ok
returns-clause-ok g c =
    let gives = g.S.Source.gives c.args.source.now in
    let root = c.args.root.now in
    let files = c.locate.new.files.entries in
    let last = c.expand.new.table.files.entries in
    let path = string_bytes c.in_ok-path.path in
    let file : OpenFile = record { index = c.in-Some.index; path = c.in_ok-path.path; includers = c.new-4.result; depth_left = 15 } in
    let table : Expansion = record { files = c.locate.new.files; spans = c.new-2.result; way = c.add_file.new.self } in
    let finds = rw c.as_str-at.ensures.value at c.in-Some.ensures in
    let way : way_view c.add_file.new.self ≡ with_file path (last_part root) no_way =
    c.in_ok-add_file.ensures ∙ (λ j. with_file (c.as_str-at.ensures.value j) (c.last_part.ensures j) (c.new-3.ensures j)) in
    let expands = rw c.in_ok-path.ensures.same at c.in_ok-expand.ensures.ok in
    let answer = answer_at (answers_of last) in
    let known = extends-older gives files last expands.grows answer (λ p a e. e) in
    record {
      given = expands.grows.given;
      spans = expands.spans;
      goes =
          root-lines c.args.policy gives.folders answer root path (c.in_ok-path.ensures.ok.first_is answer known)
          (text_at files c.in-Some.index) c.as_str-top.result.now file (walk_view table) (finds.text_is answer known None)
          c.as_str-top.ensures.value refl c.new-4.ensures.items refl (ap (lines_at files) c.new-2.ensures.items) way
          ∙ expands.goes answer (λ p a e. e);
    }
