-- What a search of a table finds, from what a search of its machine without some characters finds.
use Rattle.std.proofs.Common.{ℕ, ◌+◌, ◌<◌, ◌≤◌, ◌⊎◌, Bool, not, List, [], IsTrue, refl, sym, subst}
use Rattle.std.specs.Cmp.{first_so, second_so}
use Rattle.brl_dues.specs.Steps.{dues_machine}
use Rattle.brl_forward.specs.ClashView.{ClashView}
use Rattle.brl_pairs.specs.Body.{BodyView}
use Rattle.brl_pairs.specs.Pairs.{IsClosed}
use Rattle.brl_pairs.specs.Runs.{Behaviour}
use Rattle.brl_pairs.specs.Sets.{sets_of}
use Rattle.brl_closure.specs.Answers.{AreInOrder, HasReachedPairs, HasReachedStates, IsCertified, IsLimit, IsWithin}
use Rattle.brl_closure.specs.Deciding.{IsClashOf}
use Rattle.brl_closure.specs.Reached.{AtLeast, AtMost, Reached, ReachedPair, SamePair, SameState}
use Rattle.brl_closure.proofs.TwoRuns.{no_limit}
use Rattle.brl_search.specs.Found.{IfCertified, IfClashing, IfLimit, IsCertificate, IsFound, IsFoundOver, IsFoundWithout}
use Rattle.brl_search.specs.Searched.{State, machine_of}
use Rattle.brl_search.specs.Small.{IsPartOf}
use Rattle.brl_search.specs.declared.table_search.Found.{Found}
use Rattle.brl_search.specs.declared.table_search.Found.TheVariants.{Certified, Clashing, Limit}
use Rattle.brl_states.specs.declared.cert.Cert.TheVariants.{Dues, Window, Word}
use Rattle.brl_rules.specs.TableView.{TableView}
use Rattle.brl_rules.specs.Text.{is_text}
use Rattle.brl_rules.specs.Translation.{IsClash, IsUnambiguous, translation}
use Rattle.brl_without.specs.Itself.{unambiguous-none, without-none}
use Rattle.brl_without.specs.LeftOut.{is_left_out, uses_none}
use Rattle.brl_without.specs.Tables.{IsClashWithout, IsUnambiguousWithout}
use Rattle.brl_without.specs.Without.{without}
use Rattle.brl_search.proofs.Parts.{part-all}

-- a clash of the machine without some characters is one of the table
pub clash_of_machine : (left_out : List ℕ) (t : TableView) (left right : List ℕ) → IsClashOf (without left_out (dues_machine t)) left right → IsClash t left right (translation t left)
clash_of_machine left_out t left right h = record {
  left_text = first_so _ _ h.left_text;
  right_text = first_so _ _ h.right_text;
  differ = h.differ;
  left_cells = refl;
  right_cells = sym h.same_cells;
}

-- its texts use none of the characters
pub none_of_machine : (left_out : List ℕ) (t : TableView) (left right : List ℕ) → IsClashOf (without left_out (dues_machine t)) left right
    → IsTrue (uses_none left_out left) × IsTrue (uses_none left_out right)
none_of_machine left_out t left right h = (second_so (is_text t left) _ h.left_text, second_so (is_text t right) _ h.right_text)

-- the clash that is found has parts of these texts
pub clash_without : (left_out : List ℕ) (t : TableView) (left right : List ℕ) (clash : ClashView) → IsPartOf clash.left left → IsPartOf clash.right right
    → IsTrue (uses_none left_out left) × IsTrue (uses_none left_out right) → IsClash t clash.left clash.right clash.cells → IsClashWithout left_out t clash.left clash.right clash.cells
clash_without left_out t left right clash is_left is_right none is =
    let stays : ℕ → Bool = λ c. not (is_left_out left_out c) in
    record {
      clash = is;
      left_without = part-all stays clash.left left is_left none.0;
      right_without = part-all stays clash.right right is_right none.1;
    }

-- ---- What is found

if_certified-weaker : (P Q : BodyView State → Type 0) (found : Found) → ((body : BodyView State) → P body → Q body) → IfCertified P found → IfCertified Q found
if_certified-weaker P Q (Certified (Word body)) then h = then body h
if_certified-weaker P Q (Certified (Dues body)) then h = h
if_certified-weaker P Q (Certified (Window body)) then h = h
if_certified-weaker P Q (Clashing clash) then h = h
if_certified-weaker P Q (Limit states pairs) then h = h

if_clashing-weaker : (P Q : ClashView → Type 0) (found : Found) → ((clash : ClashView) → P clash → Q clash) → IfClashing P found → IfClashing Q found
if_clashing-weaker P Q (Certified cert) then h = h
if_clashing-weaker P Q (Clashing clash) then h = then clash h
if_clashing-weaker P Q (Limit states pairs) then h = h

if_limit-weaker : (P Q : ℕ → ℕ → Type 0) (found : Found) → ((states pairs : ℕ) → P states pairs → Q states pairs) → IfLimit P found → IfLimit Q found
if_limit-weaker P Q (Certified cert) then h = h
if_limit-weaker P Q (Clashing clash) then h = h
if_limit-weaker P Q (Limit states pairs) then h = then states pairs h

-- what is found, from what holds of a certificate, of a clash and of the limit
pub found_is : (m : Behaviour State) (IsSingle : Type 0) (IsShown : ClashView → Type 0) (limit : ℕ) (found : Found) → IfCertified (λ body. IsCertified m limit body × IsSingle) found → IfClashing IsShown found → IfLimit (IsLimit m limit) found
    → (AtMost limit SameState (Reached m) → AtMost limit SamePair (ReachedPair m) → IsSingle → IsCertificate found) → IsFoundOver m IsSingle IsShown limit found
found_is m IsSingle IsShown limit found certified shown over certifies = record {
  closed = of_body (λ body. IsClosed m (sets_of body)) (λ body h. h.0.closed);
  unambiguous = of_body (λ _. IsSingle) (λ body h. h.1);
  states = of_body (HasReachedStates m) (λ body h. h.0.states);
  pairs = of_body (HasReachedPairs m) (λ body h. h.0.pairs);
  within = of_body (IsWithin limit) (λ body h. h.0.within);
  order = of_body (λ body. AreInOrder m body.states) (λ body h. h.0.order);
  clash = shown;
  passed = of_limit (λ states pairs. (limit < states) ⊎ (limit < pairs)) (λ states pairs h. h.passed);
  by_one = of_limit (λ states pairs. (states ≤ limit + 1) × (pairs ≤ limit + 1)) (λ states pairs h. (h.few_states, h.few_pairs));
  states_reached = of_limit (λ states _. AtLeast states SameState (Reached m)) (λ states pairs h. h.states_reached);
  pairs_reached = of_limit (λ _ pairs. AtLeast pairs SamePair (ReachedPair m)) (λ states pairs h. h.pairs_reached);
  decides = λ few_states few_pairs. of_limit (λ _ _. ⊥) (λ states pairs h. no_limit m limit states pairs few_states few_pairs h);
  certifies = certifies;
}
  where
    of_body : (Q : BodyView State → Type 0) → ((body : BodyView State) → IsCertified m limit body × IsSingle → Q body) → IfCertified Q found
    of_body Q then = if_certified-weaker (λ body. IsCertified m limit body × IsSingle) Q found then certified

    of_limit : (Q : ℕ → ℕ → Type 0) → ((states pairs : ℕ) → IsLimit m limit states pairs → Q states pairs) → IfLimit Q found
    of_limit Q then = if_limit-weaker (IsLimit m limit) Q found then over

-- ---- Where nothing is left out

-- what is found says as much by what follows from it
found-weaker : (m : Behaviour State) (P Q : Type 0) (Shows Shown : ClashView → Type 0) (limit : ℕ) (found : Found) → (P → Q) → (Q → P) → ((clash : ClashView) → Shows clash → Shown clash)
    → IsFoundOver m P Shows limit found → IsFoundOver m Q Shown limit found
found-weaker m P Q Shows Shown limit found forth back shown h = record {
  closed = h.closed;
  unambiguous = if_certified-weaker (λ _. P) (λ _. Q) found (λ _. forth) h.unambiguous;
  states = h.states;
  pairs = h.pairs;
  within = h.within;
  order = h.order;
  clash = if_clashing-weaker Shows Shown found shown h.clash;
  passed = h.passed;
  by_one = h.by_one;
  states_reached = h.states_reached;
  pairs_reached = h.pairs_reached;
  decides = h.decides;
  certifies = λ few_states few_pairs single. h.certifies few_states few_pairs (back single);
}

unambiguous-nothing : (t : TableView) → IsUnambiguous t → IsUnambiguousWithout [] t
unambiguous-nothing t single left right left_is right_is left_none right_none same = single left right left_is right_is same

pub found_all : (t : TableView) (limit : ℕ) (found : Found) → IsFoundWithout [] t limit found → IsFound t limit found
found_all t limit found h =
    found-weaker (machine_of t) (IsUnambiguousWithout [] t) (IsUnambiguous t) (λ clash. IsClashWithout [] t clash.left clash.right clash.cells) (λ clash. IsClash t clash.left clash.right clash.cells) limit found
    (unambiguous-none t) (unambiguous-nothing t) (λ clash is. is.clash)
    (subst (λ (m : Behaviour State). IsFoundOver m (IsUnambiguousWithout [] t) (λ clash. IsClashWithout [] t clash.left clash.right clash.cells) limit found) (without-none (machine_of t)) h)
