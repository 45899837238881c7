use Rattle.std.proofs.Common.{◌≡◌, length, map, string_bytes, vec_len, arith, subst, All}
use Rattle.std.proofs.lemmas.List.{length-map}
use Rattle.std.proofs.lemmas.Result.{IfOk-weaker}
use Rattle.brl_rules.specs.Limits.{IsRule}
use Rattle.brl_rules.specs.Rank.{in_rank, IsRanking}
use Rattle.brl_table.specs.ItemLimits.{IsItemWithinLimits}
use Rattle.brl_table.specs.Reading.{definitions, listed_characters}
use Rattle.brl_table.proofs.LimitLemmas.{definitions-within, folds-defined}
use Rattle.brl_table.proofs.DefinedParts.{entries-valid, notices-valid, numbered-entries}
use Rattle.brl_table.proofs.builder.TableBuilder.finish.Goals as goal

pub from_parts-requires : goal.from_parts-requires
from_parts-requires c =
    let items = c.args.self.items.items in
    let characters = c.args.self.characters in
    let files = length (map string_bytes c.args.files.items) in
    let named : vec_len c.args.files ≡ files = omega (arith, length-map c.args.files.items string_bytes) in
    let limits = subst (λ n. All (IsItemWithinLimits n) items) named c.requires.limits in
    let defined = definitions-within files items limits in
    record {
      few = record {
        characters = c.requires.within.few_characters;
        rules = c.requires.few_rules;
        signs = c.requires.within.few_cells;
      };
      distinct = c.len-count.ensures.unique;
      numbered = numbered-entries (definitions items) (listed_characters items) characters.infos.entries c.requires.marked.entries_are;
      entries = entries-valid files (definitions items) (listed_characters items) defined (folds-defined files items limits) characters.infos.entries c.requires.marked.entries_are;
      rules = subst (λ n. All (IsRule characters.infos.entries n) c.args.rules.items) named c.requires.rules;
      notices = notices-valid files (definitions items) characters.notices.items c.requires.marked.notices_are defined;
    }

pub returns-clause-rules : goal.returns-clause-rules
returns-clause-rules c =
    IfOk-weaker c.from_parts.result (λ t. IsRanking c.args.rules.items t.rules) (λ t. t.rules ≡ in_rank c.args.rules.items)
    (λ t ranked. c.rank_law.ensures.one c.args.rules.items t.rules (in_rank c.args.rules.items) ranked (c.rank_law.ensures.computed c.args.rules.items))
    c.from_parts.ensures.rules
