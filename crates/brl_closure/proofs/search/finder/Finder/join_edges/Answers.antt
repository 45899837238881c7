use Rattle.std.proofs.Common.{◌≡◌, ◌<◌, ℕ, List, All, length, map, Some, slice_get, get_or, refl, sym, ◌∙◌, ap₂, subst}
use Rattle.std.proofs.lemmas.Option.{slice_get-get_or}
use Rattle.std.specs.List.{AllZip, flat_map}
use Rattle.brl_parts.specs.Parts.{AreByRule, AreKeptParts, edges_of}
use Rattle.brl_parts.proofs.Merging.{merged_edges}
use Rattle.brl_closure.specs.Fresh.{ArePlaced, HaveNumbers, IsWithin, IsWhole, number_at, part_of}
use Rattle.brl_closure.specs.declared.search.fresh.Place.{Place}
use Rattle.brl_closure.proofs.Fresh.{all_numbers, begun_partly, listed_in_state, numbers_within, places_within, still_kept}
use Rattle.brl_closure.proofs.search.finder.Finder.join_edges.Goals as goal

pub number_parts-requires-clause-partly : goal.number_parts-requires-clause-partly
number_parts-requires-clause-partly g c = λ k d within.
    let m = g.M.Machine.behaviour c.args.self.now.machine.now in
    let steps_of = g.M.Parted.steps_of c.args.self.now.machine.now in
    let f = get_or c.in_ok-places.field-0.fresh.items k d in
    let begun = c.in_ok-places.ensures.begun k d within in
    let s = c.requires.listed in
    begun_partly m steps_of c.args.number c.args.trail.now.states c.args.cells.now f begun.1
    (λ x in_part. (let there = listed_in_state steps_of (m.steps s.0) c.args.listed.items s.2 f.part begun.0 x in_part in (there.0, record { state = s.0; at = s.1; listed = there.1 })))

pub numbers_of-requires : goal.numbers_of-requires
numbers_of-requires g c =
    let p = c.in_ok-places.field-0 in
    subst (λ (places : List Place). All (IsWithin (length c.as_slice-2.result.now)) places) (sym c.as_slice.ensures.value)
    (subst (λ (numbers : List ℕ). All (IsWithin (length numbers)) p.places.items) (sym c.as_slice-2.ensures.value)
    (places_within c.args.parts.now c.keep_parts.new.parts c.in_ok-kept.ensures.stays p.fresh.items c.number_parts.new.fresh.items c.in_ok-number_parts.ensures.same c.args.listed.items p.places.items c.in_ok-places.ensures.placed c.in_ok-kept.kept.items c.in_ok-kept.ensures.numbers))

pub by_rule-requires : goal.by_rule-requires
by_rule-requires g c =
    let p = c.in_ok-places.field-0 in
    let numbers = c.as_slice-3.ensures.value ∙ c.in_ok-numbers.ensures ∙ ap₂ (λ (ns : List ℕ) (ps : List Place). map (number_at ns) ps) c.as_slice-2.ensures.value c.as_slice.ensures.value in
    subst (λ (l : List ℕ). All (λ n. n < length c.keep_parts.new.parts.parts) l) (sym numbers)
    (numbers_within c.args.parts.now c.keep_parts.new.parts c.in_ok-kept.ensures.stays p.fresh.items c.number_parts.new.fresh.items c.in_ok-number_parts.ensures.same c.args.listed.items p.places.items c.in_ok-places.ensures.placed c.in_ok-kept.kept.items c.in_ok-kept.ensures.numbers)

pub returns-clause-edges : goal.returns-clause-edges
returns-clause-edges g c =
    let m = g.M.Machine.behaviour c.args.self.now.machine.now in
    let steps_of = g.M.Parted.steps_of c.args.self.now.machine.now in
    let p = c.in_ok-places.field-0 in
    let s = c.requires.listed in
    let states = c.number_parts.new.trail.states in
    let cells = c.number_parts.new.cells in
    let new = c.keep_parts.new.parts in
    let numbers = c.as_slice-3.ensures.value ∙ c.in_ok-numbers.ensures ∙ ap₂ (λ (ns : List ℕ) (ps : List Place). map (number_at ns) ps) c.as_slice-2.ensures.value c.as_slice.ensures.value in
    let are = still_kept steps_of c.args.trail.now.states states c.in_ok-number_parts.ensures.advances.1.states c.args.cells.now cells c.in_ok-number_parts.ensures.cells
    c.args.parts.now new c.number_parts.new.fresh.items c.requires.parts c.in_ok-number_parts.ensures.whole c.in_ok-kept.ensures.kept in
    let all = all_numbers c.args.parts.now new c.in_ok-kept.ensures.stays p.fresh.items c.number_parts.new.fresh.items c.in_ok-number_parts.ensures.same c.args.listed.items p.places.items c.in_ok-places.ensures.placed steps_of states cells are c.law.ensures c.in_ok-kept.kept.items c.in_ok-kept.ensures.numbers in
    record {
      state = s.0;
      at = c.in_ok-number_parts.ensures.advances.1.states c.args.number s.0 s.1;
      listed = merged_edges steps_of states cells new (m.steps s.0) c.args.listed.items (map (number_at c.in_ok-kept.kept.items) p.places.items) c.in_ok-edges.edges.items (c.requires.active.laws.in_order s.0) s.2 all
          (subst (λ (l : List ℕ). AreByRule (flat_map (edges_of new) l) c.in_ok-edges.edges.items) numbers c.in_ok-edges.ensures);
    }

pub returns-clause-parts : goal.returns-clause-parts
returns-clause-parts g c =
    still_kept (g.M.Parted.steps_of c.args.self.now.machine.now) c.args.trail.now.states c.number_parts.new.trail.states c.in_ok-number_parts.ensures.advances.1.states c.args.cells.now c.number_parts.new.cells c.in_ok-number_parts.ensures.cells
    c.args.parts.now c.keep_parts.new.parts c.number_parts.new.fresh.items c.requires.parts c.in_ok-number_parts.ensures.whole c.in_ok-kept.ensures.kept
