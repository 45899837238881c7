-- What is left of a due after the characters that a step reads, and what a step owes to the rules
-- that are ranked above its own. The project's own choice.
use Rattle.std.specs.Prelude.{ℕ, Bool, true, false, not, ◌&&◌, ◌==◌, List, [], ◌∷◌, Option, Some, None, is_some, map, if◌then◌else◌}
use Rattle.std.specs.List.{flat_map, list_all}
use Rattle.brl_rules.specs.declared.class.Class.{Class}
use Rattle.brl_rules.specs.declared.place.Cond.{Cond}
use Rattle.brl_rules.specs.declared.place.Cond.TheVariants.{Any, Meets, Avoids}
use Rattle.brl_rules.specs.declared.rule.Rule.{Rule}
use Rattle.brl_rules.specs.Places.{holds, before_of, after_of}
use Rattle.brl_rules.specs.TableView.{TableView}
use Rattle.brl_rules.specs.Text.{classes_of, fold_of}
use Rattle.brl_dues.specs.declared.carry.Carried.{Carried}
use Rattle.brl_dues.specs.declared.carry.Carried.TheVariants.{Broken, Settled, Left}
use Rattle.brl_states.specs.declared.due.Due.{Due}
use Rattle.brl_states.specs.declared.due.Due.TheVariants.{Need, Bar}
use Rattle.brl_dues.specs.Capitals.{choices, further, is_upper}
use Rattle.brl_states.specs.Order.{in_order}

-- what is left of a bar whose characters were all read: the next character doesn't meet the
-- condition
abbrev pub opposed : Cond → Carried
opposed Any = Broken
opposed (Meets set) = Left (Need (Avoids set))
opposed (Avoids set) = Left (Need (Meets set))

-- settled where the condition holds, else broken
abbrev pub settled_if : Bool → Carried
settled_if true = Settled
settled_if false = Broken

-- what is left of a bar after the characters `past`: the text doesn't continue with these
-- characters, followed by one that meets the condition
abbrev pub carry_bar : TableView → List ℕ → List ℕ → Cond → Carried
carry_bar t [] [] cond = opposed cond
carry_bar t [] (a ∷ chars) cond = Left (Bar (a ∷ chars) cond)
carry_bar t (c ∷ past) [] cond = settled_if (not (holds cond (classes_of t c)))
carry_bar t (c ∷ past) (a ∷ chars) cond = if a == c then carry_bar t past chars cond else Settled

-- what is left of a need after the characters `past`: the text continues with a character that
-- meets the condition
abbrev pub carry_need : TableView → List ℕ → Cond → Carried
carry_need t [] cond = Left (Need cond)
carry_need t (c ∷ past) cond = settled_if (holds cond (classes_of t c))

-- what is left of a due after the characters `past`
abbrev pub carry : TableView → List ℕ → Due → Carried
carry t past (Need cond) = carry_need t past cond
carry t past (Bar [] cond) = Settled
carry t past (Bar (c ∷ chars) cond) = carry_bar t past (c ∷ chars) cond

-- the need of an after-condition
abbrev pub need : Cond → Carried
need Any = Settled
need (Meets set) = Left (Need (Meets set))
need (Avoids set) = Left (Need (Avoids set))

-- what is left of the bars of a rule in a run of capitals, after the characters `past`: the text
-- doesn't continue with capitals whose folds are these characters, followed by one that meets the
-- condition
abbrev pub carry_capitals : TableView → List ℕ → List ℕ → Cond → List Carried
carry_capitals t [] [] cond = opposed cond ∷ []
carry_capitals t [] (a ∷ chars) cond = map (λ text. Left (Bar text cond)) (choices t (a ∷ chars))
carry_capitals t (c ∷ past) [] cond = settled_if (not (holds cond (classes_of t c))) ∷ []
carry_capitals t (c ∷ past) (a ∷ chars) cond = if is_upper t c && (a == fold_of t c) then carry_capitals t past chars cond else []

-- what is left of the bar of a rule out of a run of capitals that begins with this character in
-- place of its first and goes on with these others, after the characters `past`: none where the
-- rule has no such form after a character of these classes
abbrev pub carry_out : TableView → Class → ℕ → List ℕ → List ℕ → Cond → List Carried
carry_out t before c past chars cond = if is_some (further t before false (c ∷ chars)) then carry_bar t past chars cond ∷ [] else []

-- what is left of the bars of a rule's forms that begin with this character, in a run of capitals
-- or out of one
abbrev pub bars_past : TableView → Class → Bool → ℕ → List ℕ → List ℕ → Cond → List Carried
bars_past t before run c past chars cond = if run then carry_capitals t past chars cond else carry_out t before c past chars cond

-- what is left of the requirement that a rule with these characters doesn't fit, in a run of
-- capitals or out of one, after a character and those that follow it
abbrev pub bars_after : TableView → Class → Bool → ℕ → List ℕ → List ℕ → Cond → List Carried
bars_after t before run c past [] cond = []
bars_after t before run c past (first ∷ others) cond = if first == fold_of t c then bars_past t before run c past others cond else []

-- what a step that reads these characters, in a run of capitals or out of one, owes to a rule that
-- is ranked above its own
abbrev pub bars_to : TableView → Class → Bool → List ℕ → Rule → List Carried
bars_to t before run [] r = []
bars_to t before run (c ∷ past) r =
    if holds (before_of r.place) before then bars_after t before run c past r.chars (after_of r.place before) else []

-- ---- All dues of a step

-- whether the step doesn't break it
abbrev pub is_whole : Carried → Bool
is_whole Broken = false
is_whole Settled = true
is_whole (Left due) = true

-- the due that is left, if there is one
abbrev pub left_of : Carried → List Due
left_of Broken = []
left_of Settled = []
left_of (Left due) = due ∷ []

-- the dues that are left
abbrev pub lefts : List Carried → List Due
lefts carried = flat_map left_of carried

-- the dues that are left, in order and without repeats; none where one is broken
abbrev pub gathered : List Carried → Option (List Due)
gathered carried = if list_all is_whole carried then Some (in_order (lefts carried)) else None
