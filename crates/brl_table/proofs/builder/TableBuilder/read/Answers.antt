use Rattle.std.proofs.Common.{◌≡◌, ◌∙◌, ap, sym, subst, length, map, arith, Result, Ok, Err, All, IfErr, IfOk}
use Rattle.std.proofs.lemmas.List.{length-map}
use Rattle.brl_lines.specs.Views.{line_view}
use Rattle.brl_rules.specs.Limits.{IsRule}
use Rattle.brl_table.specs.Reading.{definitions, files_of, listed_characters, rule_of, used_rules}
use Rattle.brl_table.specs.Building.{over, Resolves}
use Rattle.brl_table.proofs.SecondPass.{passes-second, rules-valid, same-length, second-fault}
use Rattle.brl_table.proofs.LimitLemmas.{definitions-within, folds-defined}
use Rattle.brl_failure.specs.Raised.{if_fault-weaker}
use Rattle.brl_table.proofs.ListSteps.{all-marked, still-within}
use Rattle.brl_table.proofs.DefinedParts.{entries-valid}
use Rattle.brl_table.proofs.builder.TableBuilder.read.Goals as goal

if_ok-both : {A E : Type 0} {P Q R : A → Type 0} (r : Result A E) → ((x : A) → P x → Q x → R x) → IfOk r P → IfOk r Q → IfOk r R
if_ok-both (Ok x) h p q = h x p q
if_ok-both (Err e) h p q = tt

if_err-then : {A E : Type 0} {P Q : E → Type 0} (r : Result A E) → ((e : E) → P e → Q e) → IfErr r P → IfErr r Q
if_err-then (Ok x) h p = tt
if_err-then (Err e) h p = h e p

pub resolve_all-requires : goal.resolve_all-requires
resolve_all-requires c =
    let all = c.in_ok-add_all.ensures.added in
    let items = c.add_all.new.self.items.items in
    let marked = all-marked items c.as_slice.result.now c.add_all.new.self.characters c.apply_lists.new.characters all.represents.defined c.as_slice.ensures.value c.apply_lists.ensures.roles c.apply_lists.ensures.notices in
    sym (length-map c.args.lines.now line_view) ∙ same-length (map line_view c.args.lines.now) items all.aligned c.apply_lists.new.characters.infos.entries marked.entries_are

pub returns-clause-read : goal.returns-clause-read
returns-clause-read c =
    let lines = map line_view c.args.lines.now in
    let count = length-map c.args.lines.now line_view in
    let all = c.in_ok-add_all.ensures.added in
    let items = c.add_all.new.self.items.items in
    let characters = c.apply_lists.new.characters.infos.entries in
    let marked = all-marked items c.as_slice.result.now c.add_all.new.self.characters c.apply_lists.new.characters all.represents.defined c.as_slice.ensures.value c.apply_lists.ensures.roles c.apply_lists.ensures.notices in
    let within = still-within items c.add_all.new.self.characters c.apply_lists.new.characters c.add_all.new.self.signs c.add_all.new.self.used all.represents.defined marked all.within in
    let same = same-length lines items all.aligned characters marked.entries_are in
    let files = length (files_of lines) in
    let entries = entries-valid files (definitions items) (listed_characters items) (definitions-within files items all.limits) (folds-defined files items all.limits) characters marked.entries_are in
    if_ok-both c.resolve_all.result
    (λ rules ruled passes.
    let passed = subst (Resolves characters lines items) (sym count) passes in
    let many : length rules.items ≡ length (used_rules items) = ap length ruled ∙ length-map (used_rules items) (rule_of (over characters)) in
    record {
      aligned = all.aligned;
      marked = marked;
      indicated = all.represents.indicated;
      limits = all.limits;
      within = within;
      few_rules = omega (arith, all.within.few_rules, all.represents.counted, many);
      rules_valid = subst (All (IsRule characters files)) (sym ruled) (rules-valid characters files entries lines items same all.limits passed);
      rules_are = ruled;
      passed = record { first = all.passed; second = passes-second lines items all.aligned characters marked.entries_are (length lines) passed };
    })
    c.resolve_all.ensures.rules c.resolve_all.ensures.passes

pub returns-clause-fault : goal.returns-clause-fault
returns-clause-fault c =
    let lines = map line_view c.args.lines.now in
    let all = c.in_ok-add_all.ensures.added in
    let items = c.add_all.new.self.items.items in
    let marked = all-marked items c.as_slice.result.now c.add_all.new.self.characters c.apply_lists.new.characters all.represents.defined c.as_slice.ensures.value c.apply_lists.ensures.roles c.apply_lists.ensures.notices in
    if_err-then c.resolve_all.result
    (λ failure. if_fault-weaker _ _ failure (λ fault again. second-fault lines items all.aligned c.apply_lists.new.characters.infos.entries marked.entries_are fault all.passed again))
    c.resolve_all.ensures.fault
