-- States of version 1 are read back.
use Rattle.std.proofs.Common.{◌≡◌, Bool, true, eqb, Some, refl, sym, ap, subst, arith}
use Rattle.std.specs.Bool.{Decides}
use Rattle.std.specs.List.{AllByRecursion}
use Rattle.std.proofs.lemmas.Bool.Decides.{Decides-eqb, same_from_decides}
use Rattle.std.proofs.lemmas.Slice.Eq.{bytes_eq-Decides}
use Rattle.brl_states.specs.declared.window_state.WindowState.{WindowState}
use Rattle.brl_pairs.specs.Body.{NumberPair, same_pair}
use Rattle.brl_states.specs.contracts.window_state.WindowStatePartialEq.TheImpl.{eq-value as window-eq}
use Rattle.brl_pairs.specs.SameMembers.{same_numbers}
use Rattle.brl_pairs.specs.Same.{same_pairs}
use Rattle.brl_states.specs.SameWindowState.{same_states}
use Rattle.brl_cert.specs.Window.{window_fields, lenient_window, window_format}
use Rattle.brl_cert.specs.Valid.{IsCapsFree, IsWindowState}
use Rattle.brl_cert.proofs.FieldLaws.{IsAbove, lower, number_reads, flag_reads, chars_read}
use Rattle.brl_cert.proofs.Again.{KeepsStates}
use Rattle.brl_rules.proofs.Facts.{beq-itself}

-- a test that holds of each value and itself, and of no other two values
pub decides : {X : Type 0} (e : X → X → Bool) → ((x y : X) → e x y ≡ true → x ≡ y) → ((x : X) → e x x ≡ true) → (x y : X) → Decides (e x y) (x ≡ y)
decides e same itself x y = (same x y, λ is. subst (λ z. e x z ≡ true) is (itself x))

pub NumberPair-Decides : (p q : NumberPair) → Decides (same_pair p q) (p ≡ q)
NumberPair-Decides = decides same_pair (same_pairs eqb same_numbers) itself
  where
    itself : (z : NumberPair) → same_pair z z ≡ true
    itself z = rw ((Decides-eqb z.ahead z.ahead).1 refl, (Decides-eqb z.behind z.behind).1 refl) ((bytes_eq-Decides z.lead z.lead).1 refl)

pub WindowState-Decides : (s t : WindowState) → Decides (window-eq.it s t) (s ≡ t)
WindowState-Decides = decides window-eq.it same_states itself
  where
    itself : (z : WindowState) → window-eq.it z z ≡ true
    itself z = rw ((Decides-eqb z.before.0 z.before.0).1 refl, beq-itself z.numeric, beq-itself z.run, beq-itself z.ended) ((bytes_eq-Decides z.coming z.coming).1 refl)

-- a test that decides identity reads the same both ways
pub flips : {X : Type 0} (e : X → X → Bool) → ((x y : X) → Decides (e x y) (x ≡ y)) → (a b : X) → e a b ≡ e b a
flips e decides a b = same_from_decides (e a b) (e b a) (decides a b) ((λ h. sym ((decides b a).0 h)), (λ h. (decides b a).1 (sym h)))

window_plain : (s : WindowState) → IsWindowState s → AllByRecursion (IsAbove 32) (window_fields s)
window_plain s h =
    let b = number_reads 255 s.before.0 (omega (arith, h.before)) (omega (arith, h.before)) in
    (lower 32 47 (omega arith) _ b.above, (lower 32 47 (omega arith) _ (flag_reads s.numeric).above, (lower 32 47 (omega arith) _ (flag_reads s.ended).above, (lower 32 44 (omega arith) _ (chars_read s.coming h.coming).above, tt))))

window_again : (s : WindowState) → IsCapsFree IsWindowState (λ z. z.run) s → lenient_window (window_fields s) ≡ Some s
window_again s h =
    let b = number_reads 255 s.before.0 (omega (arith, h.0.before)) (omega (arith, h.0.before)) in
    rw (b.again, (flag_reads s.numeric).again, (flag_reads s.ended).again, (chars_read s.coming h.0.coming).again)
    (ap (λ (run : Bool). Some (record s { run = run })) (sym h.1))

pub keeps_windows : KeepsStates window_format (IsCapsFree IsWindowState (λ s. s.run))
keeps_windows = record { again = window_again; plain = λ s h. window_plain s h.0; flips = flips window-eq.it WindowState-Decides }
