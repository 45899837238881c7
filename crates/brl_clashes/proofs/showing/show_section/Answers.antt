use Rattle.std.proofs.Common.{◌≡◌, ◌∙◌, ◌++◌, ℕ, Bool, List, ap, length, string_bytes, subst, sym}
use Rattle.std.specs.Prelude.{◌&&◌, nat_lt}
use Rattle.std.specs.Io.KnownBytes.{Appends}
use Rattle.brl_accepted.specs.Reading.{is_excused}
use Rattle.brl_clashes.proofs.Showings.{failed_at_section, memory_at_section}
use Rattle.brl_clashes.proofs.Verdicts.{left_is_of_table}
use Rattle.brl_clashes.specs.Accepted.{is_less}
use Rattle.brl_clashes.specs.SectionText.{IsSectionText}
use Rattle.brl_clashes.specs.Sections.{is_whole, listed_after, lists_none}
use Rattle.brl_clashes.specs.Sets.{FirstsView}
use Rattle.brl_clashes.specs.Showing.{IsShown, asked_of, firsts_in}
use Rattle.brl_clashes.proofs.showing.show_section.Goals as goal

pub returns-in_err-find-clause-shows : goal.returns-in_err-find-clause-shows
returns-in_err-find-clause-shows g c =
    memory_at_section (asked_of c.args.plan.asked) c.args.section c.args.tally.now c.find.new.self (g.O.Output.contents c.args.out.now) c.from_residual.result c.from_residual.ensures.1

pub section_text-requires : goal.section_text-requires
section_text-requires g c = left_is_of_table c.args.plan.asked.table.now (is_excused c.args.plan.asked.excused.now) c.args.section.found c.left_of-left.result.found c.left_of-left.ensures.1 c.requires.clashes

pub returns-in_err-text-clause-shows : goal.returns-in_err-text-clause-shows
returns-in_err-text-clause-shows g c =
    memory_at_section (asked_of c.args.plan.asked) c.args.section c.args.tally.now _ (g.O.Output.contents c.args.out.now) c.from_residual-in_err-text.result c.from_residual-in_err-text.ensures.1

pub returns-in_err-put-clause-shows : goal.returns-in_err-put-clause-shows
returns-in_err-put-clause-shows g c =
    let asked = asked_of c.args.plan.asked in
    let left = c.left_of-left.result in
    let before = c.args.tally.now.left in
    let (front, rest, parts, writes) = c.in_err-put.ensures.err in
    let text = string_bytes c.in_ok-text.text in
    let listed : c.keep.new.self.left ≡ before = c.keep.ensures.left ∙ c.in_ok-find.ensures.left in
    let taken : nat_lt (length c.clashes_of.result.now) (length c.clashes_of-count.result.now) ≡ is_less c.args.section left =
    (λ i. nat_lt (length (c.clashes_of.ensures i)) (length (c.clashes_of-count.ensures i))) in
    let by_firsts = subst (λ (f : FirstsView). IsSectionText asked.table asked.lines f asked.form (nat_lt (length c.clashes_of.result.now) (length c.clashes_of-count.result.now)) c.keep.new.self.left left text) c.requires.firsts c.in_ok-text.ensures.text in
    let by_taken = subst (λ (b : Bool). IsSectionText asked.table asked.lines (firsts_in asked) asked.form b c.keep.new.self.left left text) taken by_firsts in
    let shows = subst (λ (ls : List (ℕ × ℕ)). IsSectionText asked.table asked.lines (firsts_in asked) asked.form (is_less c.args.section left) ls left text) listed by_taken in
    let bytes : text ≡ front ++ rest = sym c.as_bytes.ensures.value ∙ parts in
    failed_at_section asked c.args.section left c.args.tally.now _ (g.O.Output.contents c.args.out.now) (g.O.Output.contents c.put.new.self) front rest c.from_residual-in_err-put.result c.from_residual-in_err-put.ensures.1
    (subst (IsShown asked before c.args.section left) bytes (record { beside = c.left_of-left.ensures; shows = shows })) writes

pub returns-clause-shows : goal.returns-clause-shows
returns-clause-shows g c =
    let asked = asked_of c.args.plan.asked in
    let left = c.left_of-left.result in
    let before = c.args.tally.now.left in
    let text = string_bytes c.in_ok-text.text in
    let listed : c.keep.new.self.left ≡ before = c.keep.ensures.left ∙ c.in_ok-find.ensures.left in
    let taken : nat_lt (length c.clashes_of.result.now) (length c.clashes_of-count.result.now) ≡ is_less c.args.section left =
    (λ i. nat_lt (length (c.clashes_of.ensures i)) (length (c.clashes_of-count.ensures i))) in
    let by_firsts = subst (λ (f : FirstsView). IsSectionText asked.table asked.lines f asked.form (nat_lt (length c.clashes_of.result.now) (length c.clashes_of-count.result.now)) c.keep.new.self.left left text) c.requires.firsts c.in_ok-text.ensures.text in
    let by_taken = subst (λ (b : Bool). IsSectionText asked.table asked.lines (firsts_in asked) asked.form b c.keep.new.self.left left text) taken by_firsts in
    let shows = subst (λ (ls : List (ℕ × ℕ)). IsSectionText asked.table asked.lines (firsts_in asked) asked.form (is_less c.args.section left) ls left text) listed by_taken in (
      left,
      text,
      record { beside = c.left_of-left.ensures; shows = shows },
      record {
        whole = c.keep.ensures.whole ∙ ap (λ (b : Bool). b && is_whole left.found) c.in_ok-find.ensures.whole;
        none = c.keep.ensures.none ∙ ap (λ (b : Bool). b && lists_none left.found) c.in_ok-find.ensures.none;
        counts = c.keep.ensures.counts;
        found_pairs = c.keep.ensures.found ∙ c.in_ok-find.ensures.found;
        left_pairs = c.in_ok-text.ensures.listed ∙ ap (λ (ls : List (ℕ × ℕ)). listed_after ls left) listed;
      },
      subst (λ (bytes : List ℕ). Appends (g.O.Output.contents c.args.out.now) (g.O.Output.contents c.put.new.self) bytes) c.as_bytes.ensures.value c.in_ok-put.ensures.ok,
    )
