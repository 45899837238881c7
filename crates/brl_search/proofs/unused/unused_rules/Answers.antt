use Rattle.std.proofs.Common.{◌≡◌, ◌+◌, ◌↔◌, ◌∙◌, ℕ, Bool, false, Contains, List, Some, ap, arith, length, slice_get, subst, subst₂}
use Rattle.brl_dues.specs.Steps.{dues_machine}
use Rattle.brl_pairs.specs.Runs.{IsExact, KeepsLaws}
use Rattle.brl_rules.specs.TableView.{TableView}
use Rattle.brl_search.proofs.Used.{are_unused}
use Rattle.brl_unused.specs.Taken.{AreTaken, IsFoundTaken}
use Rattle.brl_unused.specs.declared.taken.TakenRules.{TakenRules}
use Rattle.brl_without.specs.Without.{without}
use Rattle.brl_search.proofs.unused.unused_rules.Goals as goal

pub returns-in_ok-unused-in-Marked : goal.returns-in_ok-unused-in-Marked
returns-in_ok-unused-in-Marked g c =
    let t = c.args.table.now in
    let left_out = c.args.left_out.now in
    let marks = c.in-Marked.marks.items in
    let count = length c.rules_in_rank.result.now + c.char_count.result in
    let many : count ≡ length t.rules + length t.characters = (let rules = ap length c.rules_in_rank.ensures.rules in let characters = c.char_count.ensures.count in omega (arith, rules, characters)) in
    let same = c.new-machine.ensures.machine ∙ c.new-dues.ensures.table in
    let found = subst (λ (f : TakenRules). IsFoundTaken (without c.new-machine.result.left_out (dues_machine c.new-machine.result.machine)) count c.args.limit f) c.in-Marked.is c.in_ok-marks.ensures in
    let taken : AreTaken (without left_out (dues_machine t)) (length t.rules + length t.characters) marks =
    subst (λ (n : ℕ). AreTaken (without left_out (dues_machine t)) n marks) many
    (subst₂ (λ (cs : List ℕ) (d : TableView). AreTaken (without cs (dues_machine d)) count marks) c.new-machine.ensures.left_out same found) in
    let laws : KeepsLaws (without left_out (dues_machine t)) =
    subst₂ (λ (cs : List ℕ) (d : TableView). KeepsLaws (without cs (dues_machine d))) c.new-machine.ensures.left_out same c.start.ensures.laws in
    let exact : IsExact (without left_out (dues_machine t)) =
    subst (λ (d : TableView). IsExact (dues_machine d) → IsExact (without left_out (dues_machine d))) c.new-dues.ensures.table (c.exact_without_law.ensures left_out) c.exact_law.ensures in
    let unused = c.in_ok-unused-in-Marked.unused.items in
    are_unused left_out t c.dues_trace_law.ensures.steps exact laws marks taken unused c.in_ok-unused-in-Marked.ensures.ascending
    (subst (λ (xs : List Bool). (number : ℕ) → Contains unused number ↔ (slice_get xs number ≡ Some false)) c.as_slice.ensures.value c.in_ok-unused-in-Marked.ensures.each)
