-- Worked tables, written out. The comment above each has the lines that define such a table.
use Rattle.std.specs.Prelude.{ℕ, ◌+◌, true, false, List, [], ◌∷◌, codes}
use Rattle.brl_rules.specs.declared.rule.Rule.{Rule}
use Rattle.brl_rules.specs.declared.rule.Info.{Info}
use Rattle.brl_rules.specs.declared.place.Place.{Place}
use Rattle.brl_rules.specs.declared.place.Place.TheVariants.{Always, Word}
use Rattle.brl_rules.specs.declared.signs.Sign.TheVariants.{NumSign}
use Rattle.brl_rules.specs.Signs.{no_cells, with_cells}
use Rattle.brl_rules.specs.TableView.{TableView}

-- a character with its number, its classes and its cells
abbrev pub plain : ℕ → ℕ → ℕ → List ℕ → ℕ × Info
plain number c set cells = (
  c,
  record {
    number = number;
    cells = cells;
    classes = record { 0 = set };
    literary = false;
    mode = false;
    nocont = false;
    fold = c;
    file = 0;
    line = number + 1;
  },
)

-- a rule with this place, these characters and these cells
abbrev pub rule : Place → List ℕ → List ℕ → Rule
rule place chars cells = record { chars = chars; cells = cells; place = place; file = 0; line = 0 }

-- a table with these characters, rules and number sign
abbrev pub table : List (ℕ × Info) → List Rule → List ℕ → TableView
table characters rules num_sign = record {
  characters = characters;
  rules = rules;
  signs = with_cells no_cells NumSign num_sign;
  files = codes "t.ctb" ∷ [];
  notices = [];
}

-- letter a 1; letter b 12; letter x 1-12
abbrev pub two_cells : TableView
two_cells = table (plain 0 97 8 (1 ∷ []) ∷ plain 1 98 8 (3 ∷ []) ∷ plain 2 120 8 (1 ∷ 3 ∷ []) ∷ []) [] []

-- these and `always ab 14`
abbrev pub contracted : TableView
contracted = record two_cells { rules = rule Always (codes "ab") (9 ∷ []) ∷ [] }

-- space \s 0; letter b 12; letter u 136; letter t 2345; word but 12; word b 56-12
abbrev pub whole_marked : TableView
whole_marked = table (plain 0 32 1 (0 ∷ []) ∷ plain 1 98 8 (3 ∷ []) ∷ plain 2 117 8 (37 ∷ []) ∷ plain 3 116 8 (30 ∷ []) ∷ [])
    (rule Word (codes "but") (3 ∷ []) ∷ rule Word (codes "b") (48 ∷ 3 ∷ []) ∷ []) []

-- litdigit 1 1; numsign 3456; punctuation . 256; numericmodechars .
abbrev pub numbers_with_points : TableView
numbers_with_points =
    let digit = plain 0 49 4 (1 ∷ []) in
    let point = plain 1 46 2 (50 ∷ []) in
    table ((digit.0, record digit.1 { literary = true }) ∷ (point.0, record point.1 { mode = true }) ∷ []) [] (60 ∷ [])
