use Rattle.std.proofs.Common.{◌∙◌, sym}
use Rattle.brl_rules.proofs.parts.TableParts.are_valid.Goals.{then-are_few, else-are_few, then-are_numbered, else-are_numbered, then-entries_are_valid, else-entries_are_valid}
use Rattle.brl_rules.proofs.parts.TableParts.are_valid.Goals as goal

pub returns-then-rules_are_valid : goal.returns-then-rules_are_valid
returns-then-rules_are_valid c =
    elim c.if-entries_are_valid.branch [
      | then-entries_are_valid rules ↦ (elim c.if-are_numbered.branch [
        | then-are_numbered entries ↦ (elim c.if-are_few.branch [
          | then-are_few numbered ↦ ((
            λ holds. record {
              few = c.are_few.ensures.few.0 numbered.if-are_few.true;
              distinct = c.are_few.ensures.distinct;
              numbered = numbered.are_numbered.ensures.0 (sym numbered.value-is ∙ entries.if-are_numbered.true);
              entries = entries.entries_are_valid.ensures.0 (sym entries.value-is ∙ rules.if-entries_are_valid.true);
              rules = rules.rules_are_valid.ensures.0 (sym rules.value-is ∙ c.if-rules_are_valid.true);
              notices = c.notices_are_valid.ensures.0 holds;
            },
            λ parts. c.notices_are_valid.ensures.1 parts.notices,
          ))
          | else-are_few numbered ↦ absurd (cc)
        ])
        | else-are_numbered entries ↦ absurd (cc)
      ])
      | else-entries_are_valid rules ↦ absurd (cc)
    ]
