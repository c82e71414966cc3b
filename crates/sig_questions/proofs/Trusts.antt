-- What a root gives that has trust anchors and keys at the time.
use Rattle.std.proofs.Common.{◌≡◌, ◌≢◌, ℕ, ℤ, List, [], Ok, Err, inl, inr, sym, subst}
use Rattle.sig_base.specs.Answers.{OrMemory}
use Rattle.sig_base.specs.declared.error.SigstoreError.{SigstoreError}
use Rattle.sig_base.specs.declared.error.SigstoreError.TheVariants.{OutOfMemory}
use Rattle.sig_base.specs.declared.fault.TrustPart.{TrustPart}
use Rattle.sig_base.specs.declared.fault.TrustPart.TheVariants.{Fulcio, Ctfe}
use Rattle.sig_root.specs.Picked.{unless_empty}
use Rattle.sig_root.specs.declared.record.TrustedRoot.{TrustedRoot}
use Rattle.sig_verify.proofs.RootVerdicts.{none_given, some_given}
use Rattle.sig_verify.specs.OfflineVerdict.{authorities_of, ct_keys_of}
use Rattle.sig_verify.specs.RootLinks.{authorities, ct_keys}

-- what is given is the list that is not empty
its_anchors : (root : TrustedRoot) (now time : ℤ) (ders : List (List ℕ)) → time ≡ now
    → authorities_of root time ≡ Ok ders → authorities root now ≡ ders
its_anchors root now time ders same is =
    subst (λ (t : ℤ). authorities root t ≡ ders) same (some_given Fulcio (authorities root time) ders is).1

pub anchors_given : (root : TrustedRoot) (now time : ℤ) (ders : List (List ℕ)) (P : List (List ℕ) → Type 0)
    → time ≡ now → authorities_of root time ≡ Ok ders → P (authorities root now) → P ders
anchors_given root now time ders P same is holds = subst P (its_anchors root now time ders same is) holds

pub anchors_taken : (root : TrustedRoot) (now time : ℤ) (ders : List (List ℕ)) (P : List (List ℕ) → Type 0)
    → time ≡ now → authorities_of root time ≡ Ok ders → P ders → P (authorities root now)
anchors_taken root now time ders P same is holds = subst P (sym (its_anchors root now time ders same is)) holds

pub keys_taken : (root : TrustedRoot) (now time : ℤ) (keys : List (List ℕ × List ℕ))
    (P : List (List ℕ × List ℕ) → Type 0) → time ≡ now → ct_keys_of root time ≡ Ok keys → P keys
    → P (ct_keys root now)
keys_taken root now time keys P same is holds =
    subst (λ (t : ℤ). P (ct_keys root t)) same (subst P (sym (some_given Ctfe (ct_keys root time) keys is).1) holds)

-- a list that is not empty is given, unless memory runs out
none_refused : {A : Type 0} (part : TrustPart) (xs : List A) (error : SigstoreError) → xs ≢ []
    → OrMemory OutOfMemory error (unless_empty part xs ≡ Err error) → error ≡ OutOfMemory
none_refused part xs error some (inl memory) = memory
none_refused part xs error some (inr wrong) = absurd (some (none_given part xs error wrong).0)

pub anchors_refused : (root : TrustedRoot) (now time : ℤ) (error : SigstoreError) → time ≡ now
    → authorities root now ≢ [] → OrMemory OutOfMemory error (authorities_of root time ≡ Err error)
    → error ≡ OutOfMemory
anchors_refused root now time error same some why =
    none_refused Fulcio (authorities root time) error
    (subst (λ (t : ℤ). authorities root t ≢ []) (sym same) some) why

pub keys_refused : (root : TrustedRoot) (now time : ℤ) (error : SigstoreError) → time ≡ now
    → ct_keys root now ≢ [] → OrMemory OutOfMemory error (ct_keys_of root time ≡ Err error) → error ≡ OutOfMemory
keys_refused root now time error same some why =
    none_refused Ctfe (ct_keys root time) error (subst (λ (t : ℤ). ct_keys root t ≢ []) (sym same) some) why
