-- Results of offline verification of the same inputs have one tree.
use Rattle.std.proofs.Common.{◌≡◌, Ok, Err, inl, inr, subst}
use Rattle.sig_checked_bundle.proofs.Certificates.{OneCertificate}
use Rattle.sig_explain_verify.proofs.OneResult.{Alike, one_result}
use Rattle.sig_explain_verify.proofs.OneShownTree.{one_policy, one_refused, one_verified}
use Rattle.sig_explain_verify.specs.Inputs.{Inputs}
use Rattle.sig_explain_verify.specs.OneTree.{IsResultTree, ResultsHaveOneTree}
use Rattle.sig_json.specs.Data.{Data}
use Rattle.sig_verify.specs.OfflineVerdict.{Outcome}

module _ (one : OneCertificate) (i : Inputs) where
  one_of_result : (result : Outcome) (a b : Data) → IsResultTree i result a → IsResultTree i result b → a ≡ b
  one_of_result (Ok entry) a b p q = one_verified one i entry a b p q
  one_of_result (Err error) a b p q = one_refused one i error a b p q

  one_of_alike : (x y : Outcome) (a b : Data) → Alike x y → IsResultTree i x a → IsResultTree i y b → a ≡ b
  one_of_alike x y a b (inl same) p q =
      one_of_result y a b (subst (λ (r : Outcome). IsResultTree i r a) same p) q
  one_of_alike x y a b (inr both) p q =
      one_policy one i both.why both.other a b (subst (λ (r : Outcome). IsResultTree i r a) both.first p)
      (subst (λ (r : Outcome). IsResultTree i r b) both.second q)

pub results_have_one_tree : OneCertificate → ResultsHaveOneTree
results_have_one_tree one k policy i a b p q =
    one_of_alike one i p.result q.result a b
    (one_result one k policy i.root i.now i.digest i.bundle p.result q.result p.named q.named p.offline q.offline)
    p.shown q.shown
