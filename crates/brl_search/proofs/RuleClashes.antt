-- The clash of a pair of rules, from the texts of two paths that diverge at it.
use Rattle.std.proofs.Common.{◌≡◌, ℕ, ◌+◌, ◌<◌, ◌≤◌, ◌⊎◌, All, List, [], ◌∷◌, ◌++◌, Some, length, sym, ◌∙◌, ap, subst, arith, append_assoc}
use Rattle.std.specs.Map.{keys_of}
use Rattle.std.proofs.lemmas.List.Elements.{All-head, All-tail}
use Rattle.std.specs.BTreeMap.{btree_map_len}
use Rattle.std.proofs.lemmas.List.{length-map, map-append}
use Rattle.brl_closure.specs.Deciding.{IsClashOf}
use Rattle.brl_closure.specs.declared.search.texts.Texts.{Texts}
use Rattle.brl_divergence.specs.Answers.{IsPartial}
use Rattle.brl_divergence.specs.Listed.{IsDivergence, RuleTexts, rules_of}
use Rattle.brl_divergence.proofs.Complete.{clash_at}
use Rattle.brl_dues.specs.Steps.{dues_machine}
use Rattle.brl_forward.specs.ClashView.{ClashView}
use Rattle.brl_pairs.specs.Runs.{IsExact}
use Rattle.brl_rules.specs.TableView.{TableView}
use Rattle.brl_rules.specs.Translation.{IsClash}
use Rattle.brl_search.specs.Small.{ClashAt, IsPartOf, IsSmall}
use Rattle.brl_search.specs.Clashes.{IsOverLimit, IsRuleClash, rules_of_clashes}
use Rattle.brl_traces.specs.Traces.{TracesDivergeAsPaths, TracesDivergeAt}
use Rattle.brl_search.specs.declared.table_clashes.RuleClash.{RuleClash}
use Rattle.brl_search.proofs.TableSearch.{clash_of_machine, clash_without, none_of_machine}
use Rattle.brl_traces.proofs.Traces.{traces-diverge}
use Rattle.brl_without.specs.Without.{without}
use Rattle.brl_without.proofs.Paths.{path_within}

module _ (left_out : List ℕ) (t : TableView) (exact : IsExact (without left_out (dues_machine t))) (rules : ℕ × ℕ) (texts : Texts) (h : IsDivergence (without left_out (dues_machine t)) (rules, texts)) where
  -- the two texts clash
  clash : IsClashOf (without left_out (dues_machine t)) texts.left.items texts.right.items
  clash =
      let at = clash_at (without left_out (dues_machine t)) exact rules.0 rules.1 texts.left.items texts.right.items h.texts in
      record { left_text = at.left_text; right_text = at.right_text; differ = at.differ; same_cells = at.same_cells }

  -- and their traces diverge at the pair of rules
  pub texts_clash_at : TracesDivergeAsPaths t → ClashAt t (Some rules) texts.left.items texts.right.items
  texts_clash_at as_paths =
      let m = dues_machine t in
      let two = h.texts.0 in
      record {
        clash = clash_of_machine left_out t texts.left.items texts.right.items clash;
        diverge = traces-diverge t as_paths (rules ∷ []) texts.left.items texts.right.items two.one two.two (path_within left_out m m.start two.one two.one_path).0
            (path_within left_out m m.start two.two two.two_path).0 two.left_reads two.right_reads h.texts.1;
      }

  -- so do parts of them that are found to clash, if they are small
  pub rule_clash : (it : ClashView) → IsPartOf it.left texts.left.items → IsPartOf it.right texts.right.items → IsClash t it.left it.right it.cells → TracesDivergeAt t (rules ∷ []) it.left it.right
      → IsSmall t (Some rules) it.left it.right → IsRuleClash left_out t (record { lesser = rules.0; greater = rules.1; clash = it })
  rule_clash it left right is diverge small = record {
    in_order = h.in_order;
    clash = clash_without left_out t texts.left.items texts.right.items it left right (none_of_machine left_out t texts.left.items texts.right.items clash) is;
    diverge = diverge;
    small = small;
  }

-- as many clashes as pairs of rules
pub as_many_rules : (list : List RuleClash) (rules : RuleTexts) → rules_of_clashes list ≡ rules_of rules → length list ≡ btree_map_len rules
as_many_rules list rules same =
    sym (length-map list (λ (c : RuleClash). (c.lesser, c.greater))) ∙ ap length same ∙ length-map rules.entries (λ (e : (ℕ × ℕ) × Texts). e.0)

-- what is over the limit of the machine is over that of the table
pub over_limit : (left_out : List ℕ) (t : TableView) (limit : ℕ) (list : List RuleClash) (rules : RuleTexts) (states pairs : ℕ) → rules_of_clashes list ≡ rules_of rules → btree_map_len rules ≤ limit + 1
    → IsPartial (without left_out (dues_machine t)) limit rules states pairs → IsOverLimit left_out t limit (length list) states pairs
over_limit left_out t limit list rules states pairs same few h = record {
  passed = subst (λ (n : ℕ). (limit < states) ⊎ ((limit < pairs) ⊎ (limit < n))) (sym (as_many_rules list rules same)) h.passed;
  few_states = h.few_states;
  few_pairs = h.few_pairs;
  few_rules = let many = as_many_rules list rules same in omega (arith, many, few);
  states_reached = h.states_reached;
  pairs_reached = h.pairs_reached;
}

-- ---- One pair of rules after the other

-- the clash of the first of the pairs of rules that are left
pub one_more_rule : (done : List RuleClash) (it : RuleClash) (e : (ℕ × ℕ) × Texts) (old new : List ((ℕ × ℕ) × Texts)) (all : List (ℕ × ℕ)) → old ≡ e ∷ new → (it.lesser, it.greater) ≡ e.0
    → rules_of_clashes done ++ keys_of old ≡ all → rules_of_clashes (done ++ it ∷ []) ++ keys_of new ≡ all
one_more_rule done it e old new all first same h =
    ap (λ (l : List (ℕ × ℕ)). l ++ keys_of new) (map-append (λ (c : RuleClash). (c.lesser, c.greater)) done (it ∷ []))
    ∙ append_assoc (rules_of_clashes done) ((it.lesser, it.greater) ∷ []) (keys_of new)
    ∙ ap (λ (r : ℕ × ℕ). rules_of_clashes done ++ r ∷ keys_of new) same
    ∙ ap (λ (es : List ((ℕ × ℕ) × Texts)). rules_of_clashes done ++ keys_of es) (sym first) ∙ h

-- what holds of all that are left holds of the first and of the others
pub first_left : {X : Type 0} (P : X → Type 0) (old new : List X) (e : X) → old ≡ e ∷ new → All P old → P e × All P new
first_left P old new e first h =
    let whole = subst (All P) first h in
    (All-head P e new whole, All-tail P e new whole)
