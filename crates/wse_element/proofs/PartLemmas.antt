-- Contents, parts and weights as the code tests and counts them.
use Rattle.std.proofs.Common.{◌≡◌, ◌≢◌, ℕ, ◌+◌, ◌-◌, ◌^◌, min, Bool, true, false, not, refl, sym, subst, ◌∙◌, arith}
use Rattle.std.specs.Prelude.{◌↔◌, IsTrue}
use Rattle.std.proofs.lemmas.Bool.{false≢true}
use Rattle.wse_path.specs.Changes.{is_same}
use Rattle.wse_path.proofs.ChangeLemmas.{same_content}
use Rattle.wse_path.proofs.GatheredLemmas.{is_same_itself}
use Rattle.wse_element.specs.declared.state.PartState.{PartState}
use Rattle.wse_element.specs.declared.state.PartState.TheVariants.{Live, Closed, Incompatible}
use Rattle.wse_element.specs.Content.{Content, no_contents}
use Rattle.wse_element.specs.Record.{IsBodyOf}
use Rattle.wse_element.specs.Live.{is_live}

-- a test for equal contents tells those that differ
pub differs : (was is : Content) (same : Bool) → same ≡ is_same was is → IsTrue (not same) ↔ (was ≢ is)
differs was is true e = (λ h. absurd (false≢true h), λ ne. absurd (ne (same_content was is (sym e))))
differs was is false e = (λ _ same. false≢true (e ∙ subst (λ c. is_same was c ≡ true) same (is_same_itself was)), λ _. refl)

-- a part that isn't live may have no contents
pub lost_body : (state : PartState) → is_live state ≡ false → IsBodyOf state no_contents
lost_body Live h = absurd (false≢true (sym h))
lost_body Closed h = refl
lost_body Incompatible h = refl

-- sums that end at 2^64-1
pub capped_sum : (a b c : ℕ) → min (min (a + b) (2 ^ 64 - 1) + c) (2 ^ 64 - 1) ≡ min (a + b + c) (2 ^ 64 - 1)
capped_sum a b c = omega arith
