-- The link `promise`.
use Rattle.std.proofs.Common.{◌≡◌, ◌⊎◌, ℕ, Bool, true, false, List, [], ◌∷◌, Option, Some, None, Result}
use Rattle.std.proofs.Common.{inl, inr, refl, sym, ap, subst, ◌∙◌}
use Rattle.std.specs.Prelude.{is_some}
use Rattle.sig_base.proofs.OptionSteps.{some_is}
use Rattle.sig_base.specs.ResultSteps.{◌>>=◌}
use Rattle.sig_base.specs.declared.scheme.VerifyScheme.{VerifyScheme}
use Rattle.sig_bundle.proofs.PromiseLaws.{exact-promise, exact_or_wide, wide-promise}
use Rattle.sig_bundle.specs.Promise.{IsExactEntry, promise_of_entry, promise_tree_of}
use Rattle.sig_bundle.specs.declared.material.TransparencyLogEntry.{TransparencyLogEntry}
use Rattle.sig_json_text.specs.Canonical.{canonical_of}
use Rattle.sig_json_text.specs.declared.error.CanonicalError.{CanonicalError}
use Rattle.sig_verify.proofs.EntryKeys.{one_key}
use Rattle.sig_verify.proofs.JudgedLaws.{not_first}
use Rattle.sig_verify.specs.ContentCheck.{AcceptsSpki}
use Rattle.sig_verify.specs.EntryLinks.{HasLogKey, HoldsOfEntry, IsOfBytes, LogKeys}
use Rattle.sig_verify.specs.Judged.{Judged}
use Rattle.sig_verify.specs.LogEntry.{from_canonical, if_promised, promise_answer, promised}
use Rattle.sig_verify.specs.declared.link.Link.TheVariants.{Promise}
use Rattle.sig_verify.specs.declared.offline_error.OfflineError.{OfflineError}
use Rattle.sig_verify.specs.declared.offline_error.OfflineError.TheVariants as error

module _ (spki : AcceptsSpki) (keys : LogKeys) (e : TransparencyLogEntry) (bytes : IsOfBytes keys e)
    (key : VerifyScheme × List ℕ) (has : HasLogKey keys e key) where
  -- what the canonical text makes of the promise
  abbrev with_text : List ℕ → Result (List ℕ) CanonicalError → Result (Unit {0}) OfflineError
  with_text promise found = from_canonical found >>= λ text. if_promised (spki key.0 key.1 text promise)

  by_checker : (promise : List ℕ) → e.inclusion_promise ≡ Some promise → IsExactEntry e → (b : Bool)
      → spki key.0 key.1 (promise_of_entry e) promise ≡ b
      → Judged (HoldsOfEntry spki keys e) (Promise ∷ []) (if_promised b)
  by_checker promise is exact true said =
      (((ap is_some is, exact), (key, has, (promise, is, said))), tt)
  by_checker promise is exact false said =
      not_first (HoldsOfEntry spki keys e) Promise [] error.Promise
      (λ holds.
      let other = holds.1 in
      let accepts : VerifyScheme × List ℕ → List ℕ → Bool = λ k p. spki k.0 k.1 (promise_of_entry e) p in
      let same_key : other.0 ≡ key = one_key keys e bytes key other.0 has other.1 in
      let same_promise : other.2.0 ≡ promise = some_is other.2.0 promise (sym other.2.1 ∙ is) in
      let accepted : accepts key promise ≡ true =
      subst (λ (k : VerifyScheme × List ℕ). accepts k promise ≡ true) same_key
      (subst (λ (p : List ℕ). accepts other.0 p ≡ true) same_promise other.2.2) in
      let wrong : true ≡ false = sym accepted ∙ said in absurd cc)
      refl

  by_text : (promise : List ℕ) → e.inclusion_promise ≡ Some promise → IsExactEntry e ⊎ ¬ IsExactEntry e
      → Judged (HoldsOfEntry spki keys e) (Promise ∷ []) (with_text promise (canonical_of (promise_tree_of e)))
  by_text promise is (inl exact) =
      subst (λ (found : Result (List ℕ) CanonicalError). Judged (HoldsOfEntry spki keys e) (Promise ∷ [])
      (with_text promise found))
      (sym (exact-promise e bytes.body bytes.id exact))
      (by_checker promise is exact (spki key.0 key.1 (promise_of_entry e) promise) refl)
  by_text promise is (inr wide) =
      subst (λ (found : Result (List ℕ) CanonicalError). Judged (HoldsOfEntry spki keys e) (Promise ∷ [])
      (with_text promise found))
      (sym (wide-promise e wide))
      (not_first (HoldsOfEntry spki keys e) Promise [] error.PromiseInteger (λ holds. wide holds.0.1) refl)

  by_promise : (o : Option (List ℕ)) → e.inclusion_promise ≡ o
      → Judged (HoldsOfEntry spki keys e) (Promise ∷ []) (promised (spki key.0 key.1) e o)
  by_promise None is =
      not_first (HoldsOfEntry spki keys e) Promise [] error.PromiseMissing
      (λ holds. let wrong : true ≡ false = sym holds.0.0 ∙ ap is_some is in absurd cc) refl
  by_promise (Some promise) is = by_text promise is (exact_or_wide e)

  pub judged_promise : Judged (HoldsOfEntry spki keys e) (Promise ∷ []) (promise_answer (spki key.0 key.1) e)
  judged_promise = by_promise e.inclusion_promise refl
