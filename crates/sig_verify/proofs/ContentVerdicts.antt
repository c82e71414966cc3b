-- The links `key`, `signature`, `subject` and `time`: the results say which of them fails first.
use Rattle.std.proofs.Common.{◌≡◌, ℕ, Bool, true, false, cond, List, [], ◌∷◌, Some, Ok, Err, inl, inr, refl, sym, ap}
use Rattle.std.proofs.Common.{subst, ◌∙◌}
use Rattle.std.specs.Prelude.{int_le, ◌&&◌, Contains, slice_index_or}
use Rattle.std.specs.List.{list_any}
use Rattle.std.proofs.lemmas.List.Folds.{Any-from_list_any, list_any-from_Any}
use Rattle.std.specs.Cmp.Lexicographic.{bytes_decides}
use Rattle.sig_base.proofs.IntOrders.{le_from, le_is}
use Rattle.sig_base.specs.ResultSteps.{◌>>=◌}
use Rattle.sig_base.specs.declared.scheme.VerifyScheme.{VerifyScheme}
use Rattle.sig_checked_bundle.specs.Checked.{Checked}
use Rattle.sig_checked_bundle.specs.declared.content_check.CheckedContent.{CheckedContent}
use Rattle.sig_checked_bundle.specs.declared.content_check.CheckedContent.TheVariants.{MessageSignature, Dsse}
use Rattle.sig_dsse.specs.declared.artifact_digest.ArtifactDigest.{ArtifactDigest}
use Rattle.sig_dsse.specs.declared.artifact_digest.ArtifactDigest.TheVariants.{Sha256, Sha512}
use Rattle.sig_base.specs.ByteLists.{AreBytes}
use Rattle.sig_key.proofs.KeyKinds.{key_kind_is, key_kind_only}
use Rattle.sig_key.specs.Kind.{IsKind, key_kind, kind_answer}
use Rattle.sig_key.specs.declared.kind.KeyKind.{KeyKind}
use Rattle.sig_key.specs.declared.kind.KeyKind.TheVariants.{NoKeyInfo, Unsupported, Scheme}
use Rattle.sig_base.proofs.ByteLists.{byte_at}
use Rattle.sig_verify.proofs.JudgedLaws.{not_first, judged_tells}
use Rattle.sig_verify.specs.CertificateLinks.{HoldsOfChecked, IsAbout, IsContentSignedUnder, IsTimely, OfScheme, Trust}
use Rattle.sig_verify.specs.ContentCheck.{AcceptsUnder, content_answer, if_about, if_accepted, is_about, is_same}
use Rattle.sig_verify.specs.ContentCheck.{or_unsupported, signature_answer, time_answer}
use Rattle.sig_verify.specs.Judged.{Judged, Tells}
use Rattle.sig_verify.specs.LinkLaws.{renamed}
use Rattle.sig_verify.specs.OfflineErrors.{link_of, of_verification}
use Rattle.sig_verify.specs.Verdict.{Answer, Checker, PolicyOf}
use Rattle.sig_verify.specs.declared.link.Link.{Link}
use Rattle.sig_verify.specs.declared.link.Link.TheVariants.{Key, Signature, Subject, Time}
use Rattle.sig_verify.specs.declared.error.CertificateErrorKind.TheVariants.{Expired}
use Rattle.sig_verify.specs.declared.error.VerificationError.TheVariants.{Certificate}
use Rattle.sig_verify.specs.declared.error.SignatureErrorKind.TheVariants.{AlgoUnsupported}
use Rattle.sig_verify.specs.declared.offline_error.OfflineError.TheVariants as error

-- one check says whether P holds, and its error is of the link
abbrev pub SaysOf : Type 0 → Link → Answer → Type 0
SaysOf P link (Ok _) = P
SaysOf P link (Err e) = ¬ P × (link_of (of_verification e) ≡ Some link)

says_map : (P Q : Type 0) (link : Link) (r : Answer) → (P → Q) → (Q → P) → SaysOf P link r → SaysOf Q link r
says_map P Q link (Ok _) to from said = to said
says_map P Q link (Err e) to from said = ((λ q. said.0 (from q)), said.1)

-- ---- the signature

accepted_says : (b x : Bool) → x ≡ b → SaysOf (x ≡ true) Signature (if_accepted b)
accepted_says true x is = is
accepted_says false x is = ((λ e. let wrong : true ≡ false = sym e ∙ is in absurd cc), refl)

signature_says : (message prehash : AcceptsUnder) (d : ArtifactDigest) (content : CheckedContent) (signature : List ℕ)
    → SaysOf (IsContentSignedUnder message prehash d content signature) Signature
    (signature_answer message prehash d content signature)
signature_says message prehash d (Dsse pae digests envelope payload) signature =
    accepted_says (message pae signature) (message pae signature) refl
signature_says message prehash (Sha256 bytes) MessageSignature signature =
    accepted_says (prehash bytes signature) (prehash bytes signature) refl
signature_says message prehash (Sha512 bytes) MessageSignature signature = ((λ e. e), refl)

-- ---- the subject

same_from : (a b : ArtifactDigest) → is_same a b ≡ true → a ≡ b
same_from (Sha256 a) (Sha256 b) e = ap Sha256 ((bytes_decides a b).0 e)
same_from (Sha512 a) (Sha512 b) e = ap Sha512 ((bytes_decides a b).0 e)
same_from (Sha256 a) (Sha512 b) e = absurd cc
same_from (Sha512 a) (Sha256 b) e = absurd cc

same_itself : (a : ArtifactDigest) → is_same a a ≡ true
same_itself (Sha256 a) = (bytes_decides a a).1 refl
same_itself (Sha512 a) = (bytes_decides a a).1 refl

contains_from : (ds : List ArtifactDigest) (d : ArtifactDigest) → list_any (λ s. is_same s d) ds ≡ true
    → Contains ds d
contains_from ds d e =
    let any = Any-from_list_any (λ s. is_same s d) ds e in
    (any.0, any.2, subst (λ (y : ArtifactDigest). slice_index_or ds any.0 y ≡ y) (same_from any.1 d any.4) any.3)

contains_to : (ds : List ArtifactDigest) (d : ArtifactDigest) → Contains ds d → list_any (λ s. is_same s d) ds ≡ true
contains_to ds d is = list_any-from_Any (λ s. is_same s d) ds (is.0, d, is.1, is.2, same_itself d)

about_says_by : (b x : Bool) → x ≡ b → SaysOf (x ≡ true) Subject (if_about b)
about_says_by true x is = is
about_says_by false x is = ((λ e. let wrong : true ≡ false = sym e ∙ is in absurd cc), refl)

about_says : (content : CheckedContent) (d : ArtifactDigest)
    → SaysOf (IsAbout content d) Subject (if_about (is_about content d))
about_says MessageSignature d = tt
about_says (Dsse pae digests envelope payload) d =
    says_map (list_any (λ s. is_same s d) digests ≡ true) (Contains digests d) Subject
    (if_about (list_any (λ s. is_same s d) digests)) (contains_from digests d) (contains_to digests d)
    (about_says_by (list_any (λ s. is_same s d) digests) (list_any (λ s. is_same s d) digests) refl)

-- ---- the time

time_says : (c : Checked) (x y : Bool) → int_le c.certificate.not_before c.entry.integrated_time ≡ x
    → int_le c.entry.integrated_time c.certificate.not_after ≡ y
    → SaysOf (IsTimely c) Time (cond (x && y) (Ok tt) (Err (Certificate Expired)))
time_says c true true begun lasting = (le_from _ _ begun, le_from _ _ lasting)
time_says c true false begun lasting =
    ((λ h. let wrong : true ≡ false = sym (le_is _ _ h.1) ∙ lasting in absurd cc), refl)
time_says c false y begun lasting =
    ((λ h. let wrong : true ≡ false = sym (le_is _ _ h.0) ∙ begun in absurd cc), refl)

pub time_said : (c : Checked) → SaysOf (IsTimely c) Time (time_answer c)
time_said c =
    time_says c (int_le c.certificate.not_before c.entry.integrated_time)
    (int_le c.entry.integrated_time c.certificate.not_after) refl refl

-- ---- the key, and what is signed with it

pub same_scheme : (a b : VerifyScheme) → Scheme a ≡ Scheme b → a ≡ b
same_scheme a b e = cc

module _ (k : Checker) (policy : PolicyOf) (trust : Trust) (d : ArtifactDigest) (offline : Bool) (c : Checked) where
  abbrev Holds : Link → Type 0
  Holds = HoldsOfChecked k policy trust d offline c

  judged_two : (a b : Answer) → Holds Key → SaysOf (Holds Signature) Signature a → SaysOf (Holds Subject) Subject b
      → Judged Holds (Key ∷ Signature ∷ Subject ∷ []) (renamed (a >>= λ done. b))
  judged_two (Err e) b key one two = (Signature, one.1, inr (key, inl (one.0, refl)))
  judged_two (Ok done) (Err e) key one two = (Subject, two.1, inr (key, inr (one, inl (two.0, refl))))
  judged_two (Ok done) (Ok last) key one two = (key, (one, (two, tt)))

  module _ (fits : AreBytes c.certificate.spki) where
    no_scheme : (kind : KeyKind) → kind ≡ key_kind c.certificate.spki → ((s : VerifyScheme) → ¬ (kind ≡ Scheme s))
        → ¬ Holds Key
    no_scheme kind is other holds =
        other holds.0 (is ∙ sym (key_kind_only c.certificate.spki (byte_at c.certificate.spki fits)
        (Scheme holds.0) holds.1))

    by_kind : (kind : KeyKind) → IsKind c.certificate.spki kind → kind ≡ key_kind c.certificate.spki
        → Judged Holds (Key ∷ Signature ∷ Subject ∷ [])
        (renamed (or_unsupported (kind_answer c.certificate.spki kind) >>= λ key.
        signature_answer (k.spki key.0 key.1) (k.prehash key.0 key.1) d c.content c.signature >>= λ done.
        if_about (is_about c.content d)))
    by_kind NoKeyInfo is same =
        not_first Holds Key (Signature ∷ Subject ∷ []) (error.Signature AlgoUnsupported)
        (no_scheme NoKeyInfo same (λ s e. absurd cc)) refl
    by_kind Unsupported is same =
        not_first Holds Key (Signature ∷ Subject ∷ []) (error.Signature AlgoUnsupported)
        (no_scheme Unsupported same (λ s e. absurd cc)) refl
    by_kind (Scheme s) is same =
        let P : VerifyScheme
        → Type 0 =
        λ x. IsContentSignedUnder (k.spki x c.certificate.spki)
        (k.prehash x c.certificate.spki) d c.content c.signature in
        judged_two (signature_answer (k.spki s c.certificate.spki) (k.prehash s c.certificate.spki) d c.content
        c.signature)
        (if_about (is_about c.content d)) (s, is, tt)
        (says_map (P s) (OfScheme c.certificate P) Signature
        (signature_answer (k.spki s c.certificate.spki) (k.prehash s c.certificate.spki) d c.content c.signature)
        (λ p. (s, is, p))
        (λ q. subst P (same_scheme q.0 s
        (key_kind_only c.certificate.spki (byte_at c.certificate.spki fits) (Scheme q.0) q.1 ∙ sym same)) q.2)
        (signature_says (k.spki s c.certificate.spki) (k.prehash s c.certificate.spki) d c.content c.signature))
        (about_says c.content d)

    pub judged_content : Judged Holds (Key ∷ Signature ∷ Subject ∷ []) (renamed (content_answer k.spki k.prehash d c))
    judged_content =
        by_kind (key_kind c.certificate.spki) (key_kind_is c.certificate.spki (byte_at c.certificate.spki fits)) refl

    pub content_told : Tells Holds (Key ∷ Signature ∷ Subject ∷ []) (renamed (content_answer k.spki k.prehash d c))
    content_told = judged_tells Holds (Key ∷ Signature ∷ Subject ∷ [])
        (renamed (content_answer k.spki k.prehash d c)) judged_content

  judged_last : (r : Answer) → SaysOf (Holds Time) Time r → Judged Holds (Time ∷ []) (renamed r)
  judged_last (Ok done) said = (said, tt)
  judged_last (Err e) said = (Time, said.1, inl (said.0, refl))

  pub time_told : Tells Holds (Time ∷ []) (renamed (time_answer c))
  time_told = judged_tells Holds (Time ∷ []) (renamed (time_answer c)) (judged_last (time_answer c) (time_said c))

  pub judged_time : Judged Holds (Time ∷ []) (renamed (time_answer c))
  judged_time = judged_last (time_answer c) (time_said c)
