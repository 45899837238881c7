use Rattle.std.proofs.Common.{length, arith, ap, ◌∙◌}
use Rattle.std.proofs.lemmas.List.Sorted.{All-permutation, length_permutation}
use Rattle.brl_rules.specs.Limits.{IsRule}
use Rattle.brl_rules.specs.Tree.{ends_of}
use Rattle.brl_rules.specs.Views.{parts_view}
use Rattle.brl_rules.proofs.table.Table.from_parts.Goals as goal

pub invariant_of-result : goal.invariant_of-result
invariant_of-result c =
    let view = parts_view c.args.parts in
    record {
      table =
          record {
            parts = record {
              few = record {
                characters = c.requires.few.characters;
                rules = omega (arith, length_permutation _ _ c.rank.ensures.permutation, c.requires.few.rules);
                signs = c.requires.few.signs;
              };
              distinct = c.requires.distinct;
              numbered = c.requires.numbered;
              entries = c.requires.entries;
              rules = All-permutation (IsRule view.characters (length view.files)) _ _ c.rank.ensures.permutation c.requires.rules;
              notices = c.requires.notices;
            };
            in_rank = c.in_ok-rank.ensures.ranking.higher_first;
          };
      are_pages = c.in_ok-pages.ensures;
      is_tree = λ at. c.in_ok-tree.ensures at ∙ ap (λ rules. ends_of rules at) c.as_slice.ensures.value;
    }

pub of_rules-requires : goal.of_rules-requires
of_rules-requires c = omega (arith, length_permutation _ _ c.rank.ensures.permutation, c.requires.few.rules, ap length c.as_slice.ensures.value)
