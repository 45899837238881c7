-- Pairs of rules that are listed.
use Rattle.std.proofs.Common.{◌≡◌, ℕ, Bool, true, false, ◌||◌, ◌==◌, All, IsTrue, List, [], ◌∷◌, inl, inr, refl, ◌∙◌, subst, eq-eqb}
use Rattle.std.specs.Prelude.{Contains}
use Rattle.std.specs.BTreeMap.{get, insert_entry}
use Rattle.std.specs.Option.{is_some}
use Rattle.std.specs.List.{AllByRecursion}
use Rattle.std.specs.Map.{keys_of}
use Rattle.std.specs.Ordering.{match_ordering, nat_cmp}
use Rattle.std.specs.declared.cmp.Ordering.{Ordering}
use Rattle.std.specs.declared.cmp.Ordering.TheVariants.{Less, Equal, Greater}
use Rattle.std.proofs.lemmas.List.Elements.{All-from_recursion, recursion_from_All}
use Rattle.std.proofs.lemmas.Map.Lookups.{CmpEqualImpliesEq, exact_pairs, exact_unsigned}
use Rattle.std.proofs.lemmas.Map.Views.{Contains-keys_from_lookup, tells_apart}
use Rattle.brl_closure.specs.declared.search.texts.Texts.{Texts}
use Rattle.brl_pairs.specs.Divergence.{are_rules, has_rules}
use Rattle.brl_pairs.proofs.Divergence.{either_rules}
use Rattle.brl_pairs.proofs.Listing.{Contains-in, IsIn, in-Contains}
use Rattle.brl_divergence.specs.Listed.{RuleTexts, compare_rules, rules_of}

-- pairs that compare as equal are one pair
pub exact_rules : CmpEqualImpliesEq compare_rules
exact_rules = exact_pairs nat_cmp nat_cmp exact_unsigned exact_unsigned

-- ---- One more pair of rules

abbrev Entry : Type 0
Entry = (ℕ × ℕ) × Texts

module _ (k : ℕ × ℕ) (v : Texts) where
  all_put : (P : Entry → Type 0) (e : Entry) (es rest : List Entry) (o : Ordering) → compare_rules k e.0 ≡ o → AllByRecursion P (e ∷ es) → P (k, v) → AllByRecursion P rest
      → AllByRecursion P (match_ordering o ((k, v) ∷ e ∷ es) ((e.0, v) ∷ es) (e ∷ rest))
  all_put P e es rest Less is h p r = (p, h)
  all_put P e es rest Equal is h p r = (subst (λ (key : ℕ × ℕ). P (key, v)) (exact_rules k e.0 is) p, h.1)
  all_put P e es rest Greater is h p r = (h.0, r)

  all_inserted : (P : Entry → Type 0) (es : List Entry) → AllByRecursion P es → P (k, v) → AllByRecursion P (insert_entry compare_rules es k v)
  all_inserted P [] h p = (p, tt)
  all_inserted P (e ∷ es) h p = all_put P e es (insert_entry compare_rules es k v) (compare_rules k e.0) refl h p (all_inserted P es h.1 p)

  -- what holds of all entries and of the new one holds of all then
  pub all_insert : (P : Entry → Type 0) (es : List Entry) → All P es → P (k, v) → All P (insert_entry compare_rules es k v)
  all_insert P es h p = All-from_recursion P (insert_entry compare_rules es k v) (all_inserted P es (recursion_from_All P es h) p)

  in_put : (q : ℕ × ℕ) (e : Entry) (es rest : List Entry) (o : Ordering) → (IsIn q (keys_of es) → IsIn q (keys_of rest)) → IsIn q (keys_of (e ∷ es))
      → IsIn q (keys_of (match_ordering o ((k, v) ∷ e ∷ es) ((e.0, v) ∷ es) (e ∷ rest)))
  in_put q e es rest Less then h = inr h
  in_put q e es rest Equal then h = h
  in_put q e es rest Greater then (inl is) = inl is
  in_put q e es rest Greater then (inr h) = inr (then h)

  in_inserted : (q : ℕ × ℕ) (es : List Entry) → IsIn q (keys_of es) → IsIn q (keys_of (insert_entry compare_rules es k v))
  in_inserted q [] h = absurd h
  in_inserted q (e ∷ es) h = in_put q e es (insert_entry compare_rules es k v) (compare_rules k e.0) (in_inserted q es) h

  new_put : (e : Entry) (es rest : List Entry) (o : Ordering) → compare_rules k e.0 ≡ o → IsIn k (keys_of rest) → IsIn k (keys_of (match_ordering o ((k, v) ∷ e ∷ es) ((e.0, v) ∷ es) (e ∷ rest)))
  new_put e es rest Less is h = inl refl
  new_put e es rest Equal is h = inl (exact_rules k e.0 is)
  new_put e es rest Greater is h = inr h

  new_inserted : (es : List Entry) → IsIn k (keys_of (insert_entry compare_rules es k v))
  new_inserted [] = inl refl
  new_inserted (e ∷ es) = new_put e es (insert_entry compare_rules es k v) (compare_rules k e.0) refl (new_inserted es)

  -- what is listed stays listed
  pub listed_insert : (q : ℕ × ℕ) (es : List Entry) → Contains (keys_of es) q → Contains (keys_of (insert_entry compare_rules es k v)) q
  listed_insert q es h = in-Contains q (keys_of (insert_entry compare_rules es k v)) (in_inserted q es (Contains-in q (keys_of es) h))

  -- the new pair is listed
  pub new_listed : (es : List Entry) → Contains (keys_of (insert_entry compare_rules es k v)) k
  new_listed es = in-Contains k (keys_of (insert_entry compare_rules es k v)) (new_inserted es)

-- ---- Rules of two steps

has_in : (rules : List (ℕ × ℕ)) (r s : ℕ) → IsIn (r, s) rules → IsTrue (has_rules rules r s)
has_in [] r s h = absurd h
has_in (p ∷ rules) r s (inl is) =
    let one : (r == r) ≡ true = eq-eqb r r refl in
    let other : (s == s) ≡ true = eq-eqb s s refl in
    subst (λ (q : ℕ × ℕ). IsTrue (are_rules r s q || has_rules rules r s)) is (rw (one, other) refl)
has_in (p ∷ rules) r s (inr h) = after (are_rules r s p) (has_rules rules r s) (has_in rules r s h)
  where
    after : (b c : Bool) → IsTrue c → IsTrue (b || c)
    after true c h = refl
    after false c h = h

-- rules that are listed, in this order and in the other
pub has_listed : (rules : List (ℕ × ℕ)) (r s : ℕ) → Contains rules (r, s) → IsTrue (has_rules rules r s)
has_listed rules r s h = has_in rules r s (Contains-in (r, s) rules h)

pub has_listed_back : (rules : List (ℕ × ℕ)) (r s : ℕ) → Contains rules (r, s) → IsTrue (has_rules rules s r)
has_listed_back rules r s h = either_rules rules s r ∙ has_listed rules r s h

-- the one pair of a list
pub has_one : (r s : ℕ) → IsTrue (has_rules ((r, s) ∷ []) r s)
has_one r s = has_in ((r, s) ∷ []) r s (inl refl)

pub has_one_back : (r s : ℕ) → IsTrue (has_rules ((r, s) ∷ []) s r)
has_one_back r s = either_rules ((r, s) ∷ []) s r ∙ has_one r s

-- a pair of rules that is found is listed
pub found_listed : (list : RuleTexts) (q : ℕ × ℕ) → is_some (get compare_rules list q) ≡ true → Contains (rules_of list) q
found_listed list q found = Contains-keys_from_lookup (tells_apart exact_rules) q list.entries found
