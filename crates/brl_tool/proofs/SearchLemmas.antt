-- What a search of a table finds, as an answer.
use Rattle.std.proofs.Common.{◌≡◌, refl, ℕ, List, Option, Result, Ok, Err, IfOk, subst}
use Rattle.brl_accepted.specs.declared.reading.Excusal.{Excusal}
use Rattle.brl_closure.specs.declared.check.fault.AcceptFault.{AcceptFault}
use Rattle.brl_states.specs.declared.cert.Cert.{Cert}
use Rattle.brl_states.specs.declared.cert.Cert.TheVariants.{Dues, Window, Word}
use Rattle.brl_search.specs.Scoped.{IsSearched}
use Rattle.brl_search.specs.declared.scoped.Searched.{Searched}
use Rattle.brl_search.specs.declared.scoped.Searched.TheVariants.{Found, NotExchangeable}
use Rattle.brl_search.specs.declared.table_search.Found.TheVariants.{Certified}
use Rattle.brl_rules.specs.TableView.{TableView}
use Rattle.brl_tool.specs.Verdicts.{IsCertificateAt, IsUnexchanged, IsVerdict, SaysFound}
use Rattle.brl_answers.specs.declared.answer.Answer.{Answer}
use Rattle.brl_without.specs.Alphabet.{AlphabetView, left_out_by}
use Rattle.brl_without.specs.Tables.{AreDefined}

module _ (alphabet : AlphabetView) (accept : Option (List ℕ)) (excusal : Excusal) (t : TableView) (limit : ℕ) (out : List ℕ) where
  -- the answer that says what was found is a verdict
  pub verdict_of : (search found : Searched) → search ≡ found → IsSearched (left_out_by t alphabet) excusal.excused t limit search → (answer : Answer) → SaysFound alphabet accept excusal t out found answer → IsVerdict alphabet accept excusal t out limit answer
  verdict_of search found same is answer says = (found, subst (IsSearched (left_out_by t alphabet) excusal.excused t limit) same is, says)

  -- a certificate that was found is accepted
  says_certificate : AreDefined t (left_out_by t alphabet) → (cert : Cert) → IsSearched (left_out_by t alphabet) excusal.excused t limit (Found (Certified cert)) → (answer : Answer) → IsCertificateAt alphabet accept excusal out cert answer → SaysFound alphabet accept excusal t out (Found (Certified cert)) answer
  says_certificate defined (Word body) is answer at =
      let certified = is.found_for in
      ((certified.agree, λ nothing. (is.plainly nothing).unambiguous), (defined, (Word body, at.3, (tt, tt), (tt, certified.closed, refl))), at)
  says_certificate defined (Dues body) is answer at = absurd is.found_for
  says_certificate defined (Window body) is answer at = absurd is.found_for

  -- the answer with it, unless memory ran out
  pub certificate_found : {E : Type 0} → AreDefined t (left_out_by t alphabet) → (search : Searched) (cert : Cert) → search ≡ Found (Certified cert) → IsSearched (left_out_by t alphabet) excusal.excused t limit search → (result : Result Answer E)
      → IfOk result (IsCertificateAt alphabet accept excusal out cert) → IfOk result (IsVerdict alphabet accept excusal t out limit)
  certificate_found defined search cert same is (Ok answer) at =
      verdict_of search (Found (Certified cert)) same is answer (says_certificate defined cert (subst (IsSearched (left_out_by t alphabet) excusal.excused t limit) same is) answer at)
  certificate_found defined search cert same is (Err e) at = tt

  -- the answer where steps can't be exchanged, unless memory ran out
  pub unexchanged_found : {E : Type 0} (search : Searched) (fault : AcceptFault) → search ≡ NotExchangeable fault → IsSearched (left_out_by t alphabet) excusal.excused t limit search → (result : Result Answer E)
      → IfOk result IsUnexchanged → IfOk result (IsVerdict alphabet accept excusal t out limit)
  unexchanged_found search fault same is (Ok answer) says = verdict_of search (NotExchangeable fault) same is answer says
  unexchanged_found search fault same is (Err e) says = tt
