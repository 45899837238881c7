use Rattle.std.proofs.Common.{◌≡◌, ◌∙◌, ◌++◌, ℕ, Bool, List, ap, arith, filter, length, map, not, string_bytes, subst, sym}
use Rattle.std.specs.Prelude.{nat_lt}
use Rattle.brl_clashes.specs.ListedPairs.{has_pair}
use Rattle.brl_clashes.specs.SectionText.{IsBody, heading_in}
use Rattle.brl_clashes.specs.Sections.{AreClashesOf, is_whole, listed_after, new_in}
use Rattle.brl_clashes.specs.declared.kind.Kind.{Kind}
use Rattle.brl_clashes.specs.declared.list_form.ListForm.{ListForm}
use Rattle.brl_clashes.proofs.Shown.{new_clash}
use Rattle.brl_lines.specs.Views.{line_view}
use Rattle.brl_search.specs.Clashes.{rules_of_clashes}
use Rattle.brl_search.specs.declared.table_clashes.RuleClash.{RuleClash}
use Rattle.brl_clashes.proofs.section_text.section_text.Goals as goal

-- a heading, and what comes after it
text_of : (form : ListForm) (taken : Bool) (kind : Kind) (count number : ℕ) (more some whole all : Bool) (head text body : List ℕ) → head ≡ heading_in form taken kind count more whole → text ≡ head ++ body
    → count ≡ number → more ≡ some → whole ≡ all → text ≡ heading_in form taken kind number some all ++ body
text_of form taken kind count number more some whole all head text body head_is text_is e m w =
    text_is ∙ ap (λ (h : List ℕ). h ++ body) head_is ∙ (λ i. heading_in form taken kind (e i) (m i) (w i) ++ body)

-- the texts of the new clashes clash
pub body-requires : goal.body-requires
body-requires c =
    let t = c.args.asked.table.now in
    let before = c.args.listed.now in
    let all : AreClashesOf t c.into_clashes.result.items = subst (AreClashesOf t) (sym c.into_clashes.ensures) c.requires in
    subst (AreClashesOf t) (sym c.new_clashes-new.ensures) (new_clash t before c.into_clashes.result.items all)

pub returns-clause-text : goal.returns-clause-text
returns-clause-text c =
    let t = c.args.asked.table.now in
    let before = c.args.listed.now in
    let s = c.args.section in
    let new = c.new_clashes-new.result.items in
    let body = string_bytes c.in_ok-body.body in
    let new_is : new ≡ new_in before s = c.new_clashes-new.ensures ∙ ap (filter (λ (clash : RuleClash). not (has_pair before (clash.lesser, clash.greater)))) c.into_clashes.ensures in
    let counted : c.len-count.result ≡ length new = omega (arith, c.len-count.ensures, c.new_clashes-new.result.ok.0) in
    let after_is : c.push_rules.new.listed ≡ listed_after before s =
    c.in_ok-push_rules.ensures ∙ ap (λ (cs : List RuleClash). before ++ rules_of_clashes cs) (c.as_slice.ensures.value ∙ new_is) in
    let is : IsBody t (map line_view c.args.asked.lines.now) c.args.firsts.now (listed_after before s) c.args.asked.form s.kind (new_in before s) body =
    subst (λ (cs : List RuleClash). IsBody t (map line_view c.args.asked.lines.now) c.args.firsts.now (listed_after before s) c.args.asked.form s.kind cs body) new_is
    (subst (λ (ls : List (ℕ × ℕ)). IsBody t (map line_view c.args.asked.lines.now) c.args.firsts.now ls c.args.asked.form s.kind new body) after_is c.in_ok-body.ensures) in (
      body,
      is,
      text_of c.args.asked.form c.args.taken s.kind c.len-count.result (length (new_in before s)) (nat_lt 0 c.len-more.result) (nat_lt 0 (length before)) c.is_whole-whole.result (is_whole s.found)
          (string_bytes c.in_ok-text.text) (string_bytes c.push_str.new.self) body c.in_ok-text.ensures (c.in_ok-push_str.ensures.bytes ∙ ap (λ (rest : List ℕ). string_bytes c.in_ok-text.text ++ rest) c.as_str.ensures.value)
          (counted ∙ ap length new_is) (ap (nat_lt 0) c.len-more.ensures) c.is_whole-whole.ensures,
    )
