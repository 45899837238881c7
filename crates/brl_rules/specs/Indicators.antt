-- The indicators before a rest of a text. The manual has their opcodes in section "Braille
-- Indicator Opcodes"; when exactly each is used, and in which order, is this project's own choice.
use Rattle.std.specs.Prelude.{ℕ, Bool, ◌&&◌, not, List, [], ◌∷◌, if◌then◌else◌}
use Rattle.std.specs.List.{flat_map}
use Rattle.std.specs.Option.{option_map_or}
use Rattle.brl_rules.specs.declared.context.Context.{Context}
use Rattle.brl_rules.specs.declared.rule.Info.{Info}
use Rattle.brl_rules.specs.declared.signs.Sign.{Sign}
use Rattle.brl_rules.specs.declared.signs.Sign.TheVariants.{CapsLetter, NumSign, NoContractSign, BegCapsWord, EndCapsWord}
use Rattle.brl_rules.specs.TableView.{TableView, indicator_cells}
use Rattle.brl_rules.specs.Infos.{first_info}
use Rattle.brl_rules.specs.Places.{letter, share}
use Rattle.brl_rules.specs.Text.{has_word_capitals, is_capital, is_in_caps_run}

-- whether a table uses an indicator before a character that is in a run of capitals, or isn't: the
-- one after a run, which is for tables with word capitals, before a letter that isn't a capital;
-- the no-contract sign in numeric mode before a character that could be read as a digit; the number
-- sign outside numeric mode before a literary digit; the one before a run at its first capital; and
-- the capital sign before a capital that is in no run
abbrev pub is_used : TableView → Context → Bool → Info → Sign → Bool
is_used t here run info EndCapsWord = here.run && has_word_capitals t && share info.classes letter && not (is_capital info.classes)
is_used t here run info NoContractSign = here.numeric && info.nocont
is_used t here run info NumSign = info.literary && not here.numeric
is_used t here run info BegCapsWord = is_capital info.classes && run && not (is_capital here.classes)
is_used t here run info CapsLetter = is_capital info.classes && not run

-- the order of the indicators
abbrev pub sign_order : List Sign
sign_order = EndCapsWord ∷ NoContractSign ∷ NumSign ∷ BegCapsWord ∷ CapsLetter ∷ []

-- the cells of an indicator where it is used, else none
abbrev pub used_cells : TableView → Context → Bool → Info → Sign → List ℕ
used_cells t here run info sign = if is_used t here run info sign then indicator_cells t sign else []

-- the indicators before a character
abbrev pub indicators_of : TableView → Context → Bool → Info → List ℕ
indicators_of t here run info = flat_map (used_cells t here run info) sign_order

-- the indicators before a rest that begins in a run of capitals, or doesn't
abbrev pub indicators_before : TableView → Context → Bool → List ℕ → List ℕ
indicators_before t here run rest = option_map_or (indicators_of t here run) (first_info t rest) []

-- the indicators before a rest
abbrev pub indicators : TableView → Context → List ℕ → List ℕ
indicators t here rest = indicators_before t here (is_in_caps_run t here.classes rest) rest
