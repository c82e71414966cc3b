-- The links `fulcio`, `anchor` and `ctfe`: what a trusted root means says which of them fails first.
use Rattle.std.proofs.Common.{◌≡◌, ◌≢◌, ◌⊎◌, ℕ, ℤ, List, [], ◌∷◌, Result, Ok, Err, inl, inr, refl, sym, ap, subst}
use Rattle.std.proofs.Common.{◌∙◌, ◌≤◌, arith}
use Rattle.std.specs.List.{AllByRecursion}
use Rattle.sig_base.specs.declared.error.SigstoreError.{SigstoreError}
use Rattle.sig_base.specs.declared.error.SigstoreError.TheVariants.{CertificatePoolError, OutOfMemory}
use Rattle.sig_base.specs.declared.error.SigstoreError.TheVariants.{TufMetadataError}
use Rattle.sig_base.specs.declared.fault.PoolError.{PoolError}
use Rattle.sig_base.specs.declared.fault.PoolError.TheVariants as pool
use Rattle.sig_base.specs.declared.fault.TrustPart.{TrustPart}
use Rattle.sig_certificate.specs.Certificate.{Cert}
use Rattle.sig_root.specs.Picked.{unless_empty}
use Rattle.sig_root.specs.declared.record.TrustedRoot.{TrustedRoot}
use Rattle.sig_base.specs.declared.fault.TrustPart.TheVariants as part
use Rattle.sig_x509.proofs.AnchorLaws.{first_refused}
use Rattle.sig_x509.specs.Pool.{Pool, most_intermediates}
use Rattle.sig_x509.specs.Issuance.{AreAnchors, IsFirstNoAnchor}
use Rattle.sig_verify.specs.Judged.{IsOfFirst}
use Rattle.sig_verify.specs.LinkLaws.{RootsAreJudged}
use Rattle.sig_verify.specs.OfflineErrors.{IsRootRefusal, link_of, of_root}
use Rattle.sig_verify.specs.OfflineVerdict.{authorities_of, ct_keys_of}
use Rattle.sig_verify.specs.RootLinks.{HoldsOfRoot, IsSomeAnchor, authorities, ct_keys, root_links}
use Rattle.sig_verify.specs.Verifier.{IsRefusedRoot, IsVerifierOf, Trusted}
use Rattle.sig_verify.specs.declared.link.Link.TheVariants.{Fulcio, Anchor, Ctfe}

-- ---- a list that has something

pub some_given : {A : Type 0} (p : TrustPart) (xs ys : List A) → unless_empty p xs ≡ Ok ys → (xs ≢ []) × (xs ≡ ys)
some_given p [] ys e = absurd cc
some_given p (x ∷ xs) ys e = ((λ none. absurd cc), (let same : x ∷ xs ≡ ys = cc in same))

pub none_given : {A : Type 0} (p : TrustPart) (xs : List A) (error : SigstoreError) → unless_empty p xs ≡ Err error
    → (xs ≡ []) × (error ≡ TufMetadataError p)
none_given p [] error e = (refl, (let same : TufMetadataError p ≡ error = cc in sym same))
none_given p (x ∷ xs) error e = absurd cc

-- ---- anchors, one by one

some_anchors : (ders : List (List ℕ)) (cs : List Cert) → AreAnchors ders cs → AllByRecursion IsSomeAnchor ders
some_anchors [] [] are = tt
some_anchors (t ∷ ts) (c ∷ cs) are = ((c, are.0), some_anchors ts cs are.1)
some_anchors [] (c ∷ cs) are = absurd are
some_anchors (t ∷ ts) [] are = absurd are

anchors_of : (ders : List (List ℕ)) → AllByRecursion IsSomeAnchor ders → (cs : List Cert) × AreAnchors ders cs
anchors_of [] all = ([], tt)
anchors_of (t ∷ ts) all = let rest = anchors_of ts all.1 in (all.0.0 ∷ rest.0, (all.0.1, rest.1))

not_all_anchors : (ders : List (List ℕ)) (place : ℕ) → IsFirstNoAnchor ders place → ¬ AllByRecursion IsSomeAnchor ders
not_all_anchors ders place is all =
    let found = anchors_of ders all in
    wrong (record { anchors = found.0; intermediates = [] })
    ((first_refused ders [] (Ok (record { anchors = found.0; intermediates = [] })) found.1 tt place).1 (few, is))
  where
    few : 0 ≤ most_intermediates
    few = omega arith

    wrong : (p : Pool) → ◌≡◌ {A = Result Pool PoolError} (Ok p) (Err pool.OutOfMemory)
        ⊎ ◌≡◌ {A = Result Pool PoolError} (Ok p) (Err (pool.Anchor place)) → ⊥
    wrong p (inl e) = cc
    wrong p (inr e) = cc

module _ (root : TrustedRoot) (now : ℤ) where
  all_hold : (trusted : Trusted) → IsVerifierOf (authorities_of root now) (ct_keys_of root now) trusted
      → AllByRecursion (HoldsOfRoot root now) root_links
  all_hold trusted is =
      let given = some_given part.Fulcio (authorities root now) is.certificates is.given in
      let logs = some_given part.Ctfe (ct_keys root now) is.keys is.logs in (
        given.0,
        (
          subst (λ (ders : List (List ℕ)). AllByRecursion IsSomeAnchor ders) (sym given.1)
              (some_anchors is.certificates trusted.anchors is.anchors),
          (logs.0, tt),
        ),
      )

  told : (error : SigstoreError) → IsRefusedRoot (authorities_of root now) (ct_keys_of root now) error
      → error ≢ OutOfMemory
      → IsOfFirst (HoldsOfRoot root now) root_links (of_root error)
  told error (inl memory) other = absurd (other memory)
  told error (inr (inl refused)) other =
      let none = none_given part.Fulcio (authorities root now) error refused in
      (Fulcio, ap (λ (e : SigstoreError). link_of (of_root e)) none.1, inl ((λ some. some none.0), refl))
  told error (inr (inr (inl refused))) other =
      let has = refused.2 in
      let given = some_given part.Fulcio (authorities root now) has.0 has.1 in (
        Anchor,
        ap (λ (e : SigstoreError). link_of (of_root e)) refused.1,
        inr (
          given.0,
          inl (
            (λ all.
                not_all_anchors has.0 refused.0 has.2
                (subst (λ (ders : List (List ℕ)). AllByRecursion IsSomeAnchor ders) given.1 all)),
            refl,
          ),
        ),
      )
  told error (inr (inr (inr refused))) other =
      let has = refused.0 in
      let given = some_given part.Fulcio (authorities root now) has.0 has.2 in
      let none = none_given part.Ctfe (ct_keys root now) error refused.1 in (
        Ctfe,
        ap (λ (e : SigstoreError). link_of (of_root e)) none.1,
        inr (
          given.0,
          inr (
            subst (λ (ders : List (List ℕ)). AllByRecursion IsSomeAnchor ders) (sym given.1)
                (some_anchors has.0 has.1 has.3),
            inl ((λ some. some none.0), refl),
          ),
        ),
      )

-- unless memory ran out
apart : (error named : SigstoreError) → error ≡ named → named ≢ OutOfMemory → error ≢ OutOfMemory
apart error named is other memory = other (sym is ∙ memory)

pub memory_or_other : (root : TrustedRoot) (now : ℤ) (error : SigstoreError)
    → IsRefusedRoot (authorities_of root now) (ct_keys_of root now) error
    → (error ≡ OutOfMemory) ⊎ (error ≢ OutOfMemory)
memory_or_other root now error (inl memory) = inl memory
memory_or_other root now error (inr (inl refused)) =
    let none = none_given part.Fulcio (authorities root now) error refused in
    inr (apart error (TufMetadataError part.Fulcio) none.1 (λ e. absurd cc))
memory_or_other root now error (inr (inr (inl refused))) =
    inr (apart error (CertificatePoolError (pool.Anchor refused.0)) refused.1 (λ e. absurd cc))
memory_or_other root now error (inr (inr (inr refused))) =
    let none = none_given part.Ctfe (ct_keys root now) error refused.1 in
    inr (apart error (TufMetadataError part.Ctfe) none.1 (λ e. absurd cc))

-- what a root is refused with
pub refusal_of_root : (root : TrustedRoot) (now : ℤ) (error : SigstoreError)
    → IsRefusedRoot (authorities_of root now) (ct_keys_of root now) error → IsRootRefusal error
refusal_of_root root now error (inl memory) = inl memory
refusal_of_root root now error (inr (inl refused)) =
    inr (inl (part.Fulcio, (none_given part.Fulcio (authorities root now) error refused).1))
refusal_of_root root now error (inr (inr (inl refused))) = inr (inr (refused.0, refused.1))
refusal_of_root root now error (inr (inr (inr refused))) =
    inr (inl (part.Ctfe, (none_given part.Ctfe (ct_keys root now) error refused.1).1))

pub roots_are_judged : RootsAreJudged
roots_are_judged = record { made = all_hold; refused = told }
