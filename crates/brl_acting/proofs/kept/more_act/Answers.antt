use Rattle.std.proofs.Common.{◌≡◌, ◌∙◌, ◌&&◌, Bor, List, ℕ, ap, false, if◌then◌else◌, map, sym}
use Rattle.std.specs.List.{list_all, list_any}
use Rattle.brl_acting.specs.Acting.{is_capital_rule, small_act}
use Rattle.brl_acting.specs.Readings.{known_view}
use Rattle.brl_acting.specs.PartsViews.{parts_view}
use Rattle.brl_acting.specs.Words.{word_at}
use Rattle.brl_acting.proofs.kept.more_act.Goals as goal

pub returns : goal.returns
returns c =
    let known = known_view c.args.known.now in
    let parts = parts_view c.args.parts.now in
    let chars = c.args.chars.now in
    let none : list_any known.classes.capitals chars ≡ false = sym c.has_any.ensures ∙ c.if-has_any.false in
    let word : c.word_at.result.now ≡ word_at parts.words 0 = c.word_at.ensures ∙ ap (λ (ws : List (Bor (List ℕ))). word_at (map (λ w. w.now) ws) 0) c.as_slice.ensures.value in
    c.small_act.ensures ∙ ap (λ (w : List ℕ). small_act known w chars) word
    ∙ sym (ap (λ b. if b then list_all known.reach.near chars && is_capital_rule known c.args.place parts chars else small_act known (word_at parts.words 0) chars) none)
