-- Internal. The limits that each item of a line keeps.
use Rattle.std.specs.Prelude.{ℕ, ◌≡◌, ◌≤◌, ◌<◌, List, length, IfSome}
use Rattle.brl_table.specs.declared.item.Definition.{Definition}
use Rattle.brl_table.specs.declared.item.Item.{Item}
use Rattle.brl_table.specs.declared.item.Item.TheVariants.{Defines, DefinesBoth, Rules, Indicates, Lists, Nothing}
use Rattle.brl_table.specs.declared.item.RuleLine.{RuleLine}

-- a definition has 1 to 16 cells, and its file is one of the given number of files
pub record IsWithinLimits (files : ℕ) (d : Definition) : Type 0 where
  pub some_cells : 1 ≤ length d.cells
  pub few_cells : length d.cells ≤ 16
  pub file_named : d.file < files

-- a rule has 1 to 32 characters, 1 to 16 cells where it has its own, and a file of these
pub record IsRuleWithinLimits (files : ℕ) (r : RuleLine) : Type 0 where
  pub some_characters : 1 ≤ length r.chars
  pub few_characters : length r.chars ≤ 32
  pub some_cells : IfSome r.cells (λ cells. 1 ≤ length cells)
  pub few_cells : IfSome r.cells (λ cells. length cells ≤ 16)
  pub file_named : r.head.file < files

-- a definition of one character, which is its own fold
pub record IsOneWithinLimits (files : ℕ) (d : Definition) : Type 0 where
  pub limits : IsWithinLimits files d
  pub own_fold : d.fold ≡ d.character

-- definitions of an uppercase character and of its lowercase one, which is the fold of both
pub record AreBothWithinLimits (files : ℕ) (upper lower : Definition) : Type 0 where
  pub upper_limits : IsWithinLimits files upper
  pub lower_limits : IsWithinLimits files lower
  pub upper_fold : upper.fold ≡ lower.character
  pub lower_fold : lower.fold ≡ lower.character

-- an indicator has 1 to 16 cells
pub record AreCellsWithinLimits (cells : List ℕ) : Type 0 where
  pub some_cells : 1 ≤ length cells
  pub few_cells : length cells ≤ 16

-- an item of one of the given number of files keeps the limits of its kind
abbrev pub IsItemWithinLimits : ℕ → Item → Type 0
IsItemWithinLimits files (Defines d) = IsOneWithinLimits files d
IsItemWithinLimits files (DefinesBoth upper lower) = AreBothWithinLimits files upper lower
IsItemWithinLimits files (Rules r) = IsRuleWithinLimits files r
IsItemWithinLimits files (Indicates sign cells) = AreCellsWithinLimits cells
IsItemWithinLimits files (Lists l) = Unit {0}
IsItemWithinLimits files Nothing = Unit {0}
