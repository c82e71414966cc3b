-- Each fault of a profile comes if and only if the rules before it hold and its own does not.
use Rattle.std.proofs.Common.{◌≡◌, ◌≢◌, Bool, true, false, true≢false, cond, eqb, Option, Some, None, Ok, Err}
use Rattle.std.proofs.Common.{refl, sym, ap, subst, ◌∙◌, inl, inr}
use Rattle.std.proofs.lemmas.Bool.{cases_Bool, eqb-true, eqb-false, ne_eqb, cond-true, cond-false}
use Rattle.std.proofs.lemmas.Bool.{false_from_ne_true}
use Rattle.std.proofs.lemmas.Bool.Decides.{not_from_Decides}
use Rattle.std.specs.Str.{bytes_eq}
use Rattle.std.proofs.lemmas.Slice.Eq.{bytes_eq-Decides}
use Rattle.sig_base.proofs.OptionSteps.{some_is}
use Rattle.sig_certificate.specs.declared.values.KeyUsage.{KeyUsage as Usage}
use Rattle.sig_certificate.specs.declared.values.BasicConstraints.{BasicConstraints as Constraints}
use Rattle.sig_certificate.specs.declared.profile_error.CertificateValidationError.{CertificateValidationError}
use Rattle.sig_certificate.specs.declared.profile_error.CertificateValidationError.TheVariants.{VersionUnsupported}
use Rattle.sig_certificate.specs.declared.profile_error.CertificateValidationError.TheVariants.{NotCA}
use Rattle.sig_certificate.specs.declared.profile_error.CertificateValidationError.TheVariants.{Extension as OfPart}
use Rattle.sig_certificate.specs.declared.profile_error.NotCAErrorKind.TheVariants.{NotRootCA, Invalid}
use Rattle.sig_certificate.specs.declared.profile_error.ExtensionErrorKind.TheVariants.{BitUnset}
use Rattle.sig_certificate.specs.declared.profile_error.PartName.TheVariants.{KeyUsageDigitalSignature}
use Rattle.sig_certificate.specs.Certificate.{Cert}
use Rattle.sig_certificate.specs.Profile.{Held, usage, constraints, code_signing, agreement, authority, of_version_3}
use Rattle.sig_certificate.specs.Profile.{ca_refusal, signs_code, signer, unless_authority, leaf_refusal}
use Rattle.sig_base.specs.OptionSteps.{or_else}
use Rattle.sig_certificate.specs.Profile.{root_refusal}
use Rattle.sig_certificate.specs.Faults.{SaysUsage, SaysConstraints, IsAuthority, IsRoot, IsLeaf, IsAuthorityFault}
use Rattle.sig_certificate.specs.Faults.{other_version}
use Rattle.sig_certificate.specs.Faults.{constraints_malformed, constraints_missing, constraints_not_critical}
use Rattle.sig_certificate.specs.Faults.{usage_malformed, usage_missing, neither, one_alone, IsRootFault, no_authority}
use Rattle.sig_certificate.specs.Faults.{other_issuer, IsLeafFault, leaf_version, is_authority, leaf_usage_malformed}
use Rattle.sig_certificate.specs.Faults.{leaf_usage_missing, no_digital_signature, purposes_malformed}
use Rattle.sig_certificate.specs.Faults.{purposes_missing, no_code_signing}
use Rattle.sig_certificate.proofs.SingleValueLaws.{said, constraints_absent, constraints_bad, constraints_say, no_constraints}
use Rattle.sig_certificate.proofs.SingleValueLaws.{bad_constraints, said_constraints, usage_absent, usage_bad, usage_says}
use Rattle.sig_certificate.proofs.SingleValueLaws.{no_usage, bad_usage, said_usage, purposes_absent, purposes_bad}
use Rattle.sig_certificate.proofs.SingleValueLaws.{purposes_say, no_purposes, bad_purposes, said_purposes}

-- ---- version 3

version_3 : (c : Cert) (o : Option CertificateValidationError) → c.version ≡ 3 → of_version_3 c o ≡ o
version_3 c o is = rw is refl

other : (c : Cert) (o : Option CertificateValidationError) → c.version ≢ 3 → of_version_3 c o ≡ Some VersionUnsupported
other c o not_so = cond-false (eqb c.version 3) _ _ (ne_eqb c.version 3 not_so)

-- ---- authorities: from the refusal

agreement_fault : (c : Cert) (d ca k : Bool) → c.version ≡ 3 → SaysConstraints c true ca → SaysUsage c d k
    → (e : CertificateValidationError)
    → agreement ca k ≡ Some e → IsAuthorityFault c e
agreement_fault c d true true v constraint usages e is = absurd cc
agreement_fault c d false false v constraint usages e is =
    subst (λ (w : CertificateValidationError). IsAuthorityFault c w) (some_is _ e is) (neither d v constraint usages)
agreement_fault c d true false v constraint usages e is =
    subst (λ (w : CertificateValidationError). IsAuthorityFault c w) (some_is _ e is)
    (one_alone d true false v constraint usages true≢false)
agreement_fault c d false true v constraint usages e is =
    subst (λ (w : CertificateValidationError). IsAuthorityFault c w) (some_is _ e is)
    (one_alone d false true v constraint usages (λ h. true≢false (sym h)))

authority_fault : (c : Cert) (k : Held (Bool × Constraints)) (u : Held Usage) → c.version ≡ 3 → constraints c ≡ k
    → usage c ≡ u
    → (e : CertificateValidationError) → authority k u ≡ Some e → IsAuthorityFault c e
authority_fault c (Err x) u v ck cu e is =
    let bad = constraints_bad c x ck in
    subst (λ (w : CertificateValidationError). IsAuthorityFault c w) (sym bad.0 ∙ some_is x e is)
    (constraints_malformed v bad.1)
authority_fault c (Ok None) u v ck cu e is =
    subst (λ (w : CertificateValidationError). IsAuthorityFault c w) (some_is _ e is)
    (constraints_missing v (constraints_absent c ck))
authority_fault c (Ok (Some (false, b))) u v ck cu e is =
    subst (λ (w : CertificateValidationError). IsAuthorityFault c w) (some_is _ e is)
    (constraints_not_critical b.ca v (constraints_say c false b ck))
authority_fault c (Ok (Some (true, b))) (Err x) v ck cu e is =
    let bad = usage_bad c x cu in
    subst (λ (w : CertificateValidationError). IsAuthorityFault c w) (sym bad.0 ∙ some_is x e is)
    (usage_malformed b.ca v (constraints_say c true b ck) bad.1)
authority_fault c (Ok (Some (true, b))) (Ok None) v ck cu e is =
    subst (λ (w : CertificateValidationError). IsAuthorityFault c w) (some_is _ e is)
    (usage_missing b.ca v (constraints_say c true b ck) (usage_absent c cu))
authority_fault c (Ok (Some (true, b))) (Ok (Some u)) v ck cu e is =
    agreement_fault c u.digital_signature b.ca u.key_cert_sign v (constraints_say c true b ck) (usage_says c u cu) e is

pub authority_fault_is : (c : Cert) (e : CertificateValidationError) → ca_refusal c ≡ Some e → IsAuthorityFault c e
authority_fault_is c e is =
    elim (cases_Bool (eqb c.version 3)) [
      | inl so ↦
          let v = eqb-true c.version 3 so in
          authority_fault c (constraints c) (usage c) v refl refl e (sym (version_3 c _ v) ∙ is)
      | inr not_so ↦
          let v = eqb-false c.version 3 not_so in
          subst (λ (w : CertificateValidationError). IsAuthorityFault c w) (some_is _ e (sym (other c _ v) ∙ is))
          (other_version v)
    ]

agreement_none : (c : Cert) (d ca k : Bool) → c.version ≡ 3 → SaysConstraints c true ca → SaysUsage c d k
    → agreement ca k ≡ None → IsAuthority c
agreement_none c d true true v constraint usages is =
    record { version = v; constraints = constraint; digital_signature = d; usage = usages }
agreement_none c d false false v constraint usages is = absurd cc
agreement_none c d true false v constraint usages is = absurd cc
agreement_none c d false true v constraint usages is = absurd cc

authority_none : (c : Cert) (k : Held (Bool × Constraints)) (u : Held Usage) → c.version ≡ 3 → constraints c ≡ k
    → usage c ≡ u
    → authority k u ≡ None → IsAuthority c
authority_none c (Err x) u v ck cu is = absurd cc
authority_none c (Ok None) u v ck cu is = absurd cc
authority_none c (Ok (Some (false, b))) u v ck cu is = absurd cc
authority_none c (Ok (Some (true, b))) (Err x) v ck cu is = absurd cc
authority_none c (Ok (Some (true, b))) (Ok None) v ck cu is = absurd cc
authority_none c (Ok (Some (true, b))) (Ok (Some u)) v ck cu is =
    agreement_none c u.digital_signature b.ca u.key_cert_sign v (constraints_say c true b ck) (usage_says c u cu) is

pub authority_is : (c : Cert) → ca_refusal c ≡ None → IsAuthority c
authority_is c is =
    elim (cases_Bool (eqb c.version 3)) [
      | inl so ↦
          let v = eqb-true c.version 3 so in
          authority_none c (constraints c) (usage c) v refl refl (sym (version_3 c _ v) ∙ is)
      | inr not_so ↦
          absurd (let e = sym (other c (authority (constraints c) (usage c)) (eqb-false c.version 3 not_so))
          ∙ is in cc)
    ]

-- ---- authorities: to the refusal

agreement_differs : (ca k : Bool) → ca ≢ k → agreement ca k ≡ Some (NotCA (Invalid ca k))
agreement_differs true true not_so = absurd (not_so refl)
agreement_differs false false not_so = absurd (not_so refl)
agreement_differs true false not_so = refl
agreement_differs false true not_so = refl

both_said : (c : Cert) (d ca k : Bool) → c.version ≡ 3 → SaysConstraints c true ca → SaysUsage c d k
    → ca_refusal c ≡ agreement ca k
both_said c d ca k v constraint usages =
    let s = said_constraints c true ca constraint in
    let t = said_usage c d k usages in
    version_3 c _ v
    ∙ ap (λ (w : Held (Bool × Constraints)). authority w (usage c)) s.1.0
    ∙ ap (λ (w : Held Usage). authority (said (true, s.0)) w) t.1.0
    ∙ ap (λ (w : Bool). agreement w t.0.key_cert_sign) s.1.1
    ∙ ap (λ (w : Bool). agreement ca w) t.1.1.1

pub authority_again : (c : Cert) → IsAuthority c → ca_refusal c ≡ None
authority_again c is = both_said c is.digital_signature true true is.version is.constraints is.usage

pub authority_fault_again : (c : Cert) (e : CertificateValidationError) → IsAuthorityFault c e → ca_refusal c ≡ Some e
authority_fault_again c e (other_version not_so) = other c _ not_so
authority_fault_again c e (constraints_malformed v bad) =
    version_3 c _ v ∙ ap (λ (w : Held (Bool × Constraints)). authority w (usage c)) (bad_constraints c bad)
authority_fault_again c e (constraints_missing v none) =
    version_3 c _ v ∙ ap (λ (w : Held (Bool × Constraints)). authority w (usage c)) (no_constraints c none)
authority_fault_again c e (constraints_not_critical ca v says) =
    let s = said_constraints c false ca says in
    version_3 c _ v ∙ ap (λ (w : Held (Bool × Constraints)). authority w (usage c)) s.1.0
authority_fault_again c e (usage_malformed ca v says bad) =
    let s = said_constraints c true ca says in
    version_3 c _ v ∙ ap (λ (w : Held (Bool × Constraints)). authority w (usage c)) s.1.0
    ∙ ap (λ (w : Held Usage). authority (said (true, s.0)) w) (bad_usage c bad)
authority_fault_again c e (usage_missing ca v says none) =
    let s = said_constraints c true ca says in
    version_3 c _ v ∙ ap (λ (w : Held (Bool × Constraints)). authority w (usage c)) s.1.0
    ∙ ap (λ (w : Held Usage). authority (said (true, s.0)) w) (no_usage c none)
authority_fault_again c e (neither d v constraint usages) = both_said c d false false v constraint usages
authority_fault_again c e (one_alone d ca k v constraint usages differ) =
    both_said c d ca k v constraint usages ∙ agreement_differs ca k differ

-- ---- leaves: from the refusal

code_fault : (c : Cert) (k : Bool) (p : Held Bool) → c.version ≡ 3 → ¬ IsAuthority c → SaysUsage c true k
    → code_signing c ≡ p
    → (e : CertificateValidationError) → signs_code p ≡ Some e → IsLeafFault c e
code_fault c k (Err x) v not_so usages cp e is =
    let bad = purposes_bad c x cp in
    subst (λ (w : CertificateValidationError). IsLeafFault c w) (sym bad.0 ∙ some_is x e is)
    (purposes_malformed k v not_so usages bad.1)
code_fault c k (Ok None) v not_so usages cp e is =
    subst (λ (w : CertificateValidationError). IsLeafFault c w) (some_is _ e is)
    (purposes_missing k v not_so usages (purposes_absent c cp))
code_fault c k (Ok (Some true)) v not_so usages cp e is = absurd cc
code_fault c k (Ok (Some false)) v not_so usages cp e is =
    subst (λ (w : CertificateValidationError). IsLeafFault c w) (some_is _ e is)
    (no_code_signing k v not_so usages (purposes_say c false cp))

bit_fault : (c : Cert) (d k : Bool) → c.version ≡ 3 → ¬ IsAuthority c → SaysUsage c d k
    → (e : CertificateValidationError)
    → cond d (signs_code (code_signing c)) (Some (OfPart (BitUnset KeyUsageDigitalSignature))) ≡ Some e
    → IsLeafFault c e
bit_fault c true k v not_so usages e is = code_fault c k (code_signing c) v not_so usages refl e is
bit_fault c false k v not_so usages e is =
    subst (λ (w : CertificateValidationError). IsLeafFault c w) (some_is _ e is)
    (no_digital_signature k v not_so usages)

signer_fault : (c : Cert) (u : Held Usage) → c.version ≡ 3 → ¬ IsAuthority c → usage c ≡ u
    → (e : CertificateValidationError)
    → signer u (code_signing c) ≡ Some e → IsLeafFault c e
signer_fault c (Err x) v not_so cu e is =
    let bad = usage_bad c x cu in
    subst (λ (w : CertificateValidationError). IsLeafFault c w) (sym bad.0 ∙ some_is x e is)
    (leaf_usage_malformed v not_so bad.1)
signer_fault c (Ok None) v not_so cu e is =
    subst (λ (w : CertificateValidationError). IsLeafFault c w) (some_is _ e is)
    (leaf_usage_missing v not_so (usage_absent c cu))
signer_fault c (Ok (Some u)) v not_so cu e is =
    bit_fault c u.digital_signature u.key_cert_sign v not_so (usage_says c u cu) e is

unless_fault : (c : Cert) (o : Option CertificateValidationError) → c.version ≡ 3 → ca_refusal c ≡ o
    → (e : CertificateValidationError)
    → unless_authority o (signer (usage c) (code_signing c)) ≡ Some e → IsLeafFault c e
unless_fault c None v ca e is =
    subst (λ (w : CertificateValidationError). IsLeafFault c w) (some_is _ e is) (is_authority (authority_is c ca))
unless_fault c (Some x) v ca e is =
    signer_fault c (usage c) v (λ so. let none = sym ca ∙ authority_again c so in cc) refl e is

pub leaf_fault_is : (c : Cert) (e : CertificateValidationError) → leaf_refusal c ≡ Some e → IsLeafFault c e
leaf_fault_is c e is =
    elim (cases_Bool (eqb c.version 3)) [
      | inl so ↦
          let v = eqb-true c.version 3 so in
          unless_fault c (ca_refusal c) v refl e (sym (version_3 c _ v) ∙ is)
      | inr not_so ↦
          let v = eqb-false c.version 3 not_so in
          subst (λ (w : CertificateValidationError). IsLeafFault c w) (some_is _ e (sym (other c _ v) ∙ is))
          (leaf_version v)
    ]

-- ---- leaves: to the refusal

-- no authority has a refusal
refused : (c : Cert) → ¬ IsAuthority c → (x : Option CertificateValidationError)
    → unless_authority (ca_refusal c) x ≡ x
refused c not_so x = by (ca_refusal c) refl
  where
    by : (o : Option CertificateValidationError) → ca_refusal c ≡ o → unless_authority o x ≡ x
    by None is = absurd (not_so (authority_is c is))
    by (Some y) is = refl

leaf_goes_on : (c : Cert) → c.version ≡ 3 → ¬ IsAuthority c → leaf_refusal c ≡ signer (usage c) (code_signing c)
leaf_goes_on c v not_so = version_3 c _ v ∙ refused c not_so (signer (usage c) (code_signing c))

leaf_signs : (c : Cert) (k : Bool) → c.version ≡ 3 → ¬ IsAuthority c → SaysUsage c true k
    → leaf_refusal c ≡ signs_code (code_signing c)
leaf_signs c k v not_so usages =
    let t = said_usage c true k usages in
    leaf_goes_on c v not_so ∙ ap (λ (w : Held Usage). signer w (code_signing c)) t.1.0
    ∙ ap (λ (w : Bool). cond w (signs_code (code_signing c)) (Some (OfPart (BitUnset KeyUsageDigitalSignature))))
    t.1.1.0

pub leaf_fault_again : (c : Cert) (e : CertificateValidationError) → IsLeafFault c e → leaf_refusal c ≡ Some e
leaf_fault_again c e (leaf_version not_so) = other c _ not_so
leaf_fault_again c e (is_authority is) =
    version_3 c _ is.version
    ∙ ap (λ (w : Option CertificateValidationError). unless_authority w (signer (usage c) (code_signing c)))
    (authority_again c is)
leaf_fault_again c e (leaf_usage_malformed v not_so bad) =
    leaf_goes_on c v not_so ∙ ap (λ (w : Held Usage). signer w (code_signing c)) (bad_usage c bad)
leaf_fault_again c e (leaf_usage_missing v not_so none) =
    leaf_goes_on c v not_so ∙ ap (λ (w : Held Usage). signer w (code_signing c)) (no_usage c none)
leaf_fault_again c e (no_digital_signature k v not_so usages) =
    let t = said_usage c false k usages in
    leaf_goes_on c v not_so ∙ ap (λ (w : Held Usage). signer w (code_signing c)) t.1.0
    ∙ ap (λ (w : Bool). cond w (signs_code (code_signing c)) (Some (OfPart (BitUnset KeyUsageDigitalSignature))))
    t.1.1.0
leaf_fault_again c e (purposes_malformed k v not_so usages bad) =
    leaf_signs c k v not_so usages ∙ ap (λ (w : Held Bool). signs_code w) (bad_purposes c bad)
leaf_fault_again c e (purposes_missing k v not_so usages none) =
    leaf_signs c k v not_so usages ∙ ap (λ (w : Held Bool). signs_code w) (no_purposes c none)
leaf_fault_again c e (no_code_signing k v not_so usages says) =
    leaf_signs c k v not_so usages ∙ ap (λ (w : Held Bool). signs_code w) (said_purposes c false says)

-- ---- roots

root_fault : (c : Cert) (o : Option CertificateValidationError) → ca_refusal c ≡ o → (e : CertificateValidationError)
    → or_else o (cond (bytes_eq c.issuer c.subject) None (Some (NotCA NotRootCA))) ≡ Some e → IsRootFault c e
root_fault c (Some x) ca e is =
    no_authority e (subst (λ (w : CertificateValidationError). IsAuthorityFault c w) (some_is x e is)
    (authority_fault_is c x ca))
root_fault c None ca e is =
    elim (cases_Bool (bytes_eq c.issuer c.subject)) [
      | inl same ↦
          absurd (let none = sym (cond-true (bytes_eq c.issuer c.subject) None (Some (NotCA NotRootCA)) same)
          ∙ is in cc)
      | inr differ ↦
          subst (λ (w : CertificateValidationError). IsRootFault c w)
          (some_is _ e (sym (cond-false (bytes_eq c.issuer c.subject) None (Some (NotCA NotRootCA)) differ) ∙ is))
          (other_issuer (authority_is c ca)
          (not_from_Decides (bytes_eq c.issuer c.subject) (bytes_eq-Decides c.issuer c.subject) differ))
    ]

pub root_fault_is : (c : Cert) (e : CertificateValidationError) → root_refusal c ≡ Some e → IsRootFault c e
root_fault_is c e is = root_fault c (ca_refusal c) refl e is

pub root_fault_again : (c : Cert) (e : CertificateValidationError) → IsRootFault c e → root_refusal c ≡ Some e
root_fault_again c e (no_authority x fault) =
    ap (λ (w : Option CertificateValidationError). or_else w
    (cond (bytes_eq c.issuer c.subject) None (Some (NotCA NotRootCA)))) (authority_fault_again c e fault)
root_fault_again c e (other_issuer is differ) =
    ap (λ (w : Option CertificateValidationError). or_else w
    (cond (bytes_eq c.issuer c.subject) None (Some (NotCA NotRootCA)))) (authority_again c is)
    ∙ cond-false (bytes_eq c.issuer c.subject) None (Some (NotCA NotRootCA))
    (false_from_ne_true (bytes_eq c.issuer c.subject) (λ same. differ ((bytes_eq-Decides c.issuer c.subject).0 same)))

root_none : (c : Cert) (o : Option CertificateValidationError) → ca_refusal c ≡ o
    → or_else o (cond (bytes_eq c.issuer c.subject) None (Some (NotCA NotRootCA))) ≡ None → IsRoot c
root_none c (Some x) ca is = absurd cc
root_none c None ca is =
    elim (cases_Bool (bytes_eq c.issuer c.subject)) [
      | inl same ↦ record { authority = authority_is c ca; same = (bytes_eq-Decides c.issuer c.subject).0 same }
      | inr differ ↦
          absurd (let no = sym (cond-false (bytes_eq c.issuer c.subject) None (Some (NotCA NotRootCA)) differ)
          ∙ is in cc)
    ]

pub root_is : (c : Cert) → root_refusal c ≡ None → IsRoot c
root_is c is = root_none c (ca_refusal c) refl is

pub root_again : (c : Cert) → IsRoot c → root_refusal c ≡ None
root_again c is =
    ap (λ (w : Option CertificateValidationError). or_else w
    (cond (bytes_eq c.issuer c.subject) None (Some (NotCA NotRootCA)))) (authority_again c is.authority)
    ∙ cond-true (bytes_eq c.issuer c.subject) None (Some (NotCA NotRootCA))
    ((bytes_eq-Decides c.issuer c.subject).1 is.same)

-- ---- leaves that may sign code

code_none : (c : Cert) (k : Bool) (p : Held Bool) → c.version ≡ 3 → ¬ IsAuthority c → SaysUsage c true k
    → code_signing c ≡ p → signs_code p ≡ None → IsLeaf c
code_none c k (Err x) v not_so usages cp is = absurd cc
code_none c k (Ok None) v not_so usages cp is = absurd cc
code_none c k (Ok (Some false)) v not_so usages cp is = absurd cc
code_none c k (Ok (Some true)) v not_so usages cp is =
    record {
      version = v;
      end_entity = not_so;
      key_cert_sign = k;
      usage = usages;
      code_signing = purposes_say c true cp;
    }

bit_none : (c : Cert) (d k : Bool) → c.version ≡ 3 → ¬ IsAuthority c → SaysUsage c d k
    → cond d (signs_code (code_signing c)) (Some (OfPart (BitUnset KeyUsageDigitalSignature))) ≡ None → IsLeaf c
bit_none c true k v not_so usages is = code_none c k (code_signing c) v not_so usages refl is
bit_none c false k v not_so usages is = absurd cc

signer_none : (c : Cert) (u : Held Usage) → c.version ≡ 3 → ¬ IsAuthority c → usage c ≡ u
    → signer u (code_signing c) ≡ None → IsLeaf c
signer_none c (Err x) v not_so cu is = absurd cc
signer_none c (Ok None) v not_so cu is = absurd cc
signer_none c (Ok (Some u)) v not_so cu is =
    bit_none c u.digital_signature u.key_cert_sign v not_so (usage_says c u cu) is

unless_none : (c : Cert) (o : Option CertificateValidationError) → c.version ≡ 3 → ca_refusal c ≡ o
    → unless_authority o (signer (usage c) (code_signing c)) ≡ None → IsLeaf c
unless_none c None v ca is = absurd cc
unless_none c (Some x) v ca is =
    signer_none c (usage c) v (λ so. let none = sym ca ∙ authority_again c so in cc) refl is

pub leaf_is : (c : Cert) → leaf_refusal c ≡ None → IsLeaf c
leaf_is c is =
    elim (cases_Bool (eqb c.version 3)) [
      | inl so ↦
          let v = eqb-true c.version 3 so in
          unless_none c (ca_refusal c) v refl (sym (version_3 c _ v) ∙ is)
      | inr not_so ↦
          absurd (let e = sym (other c (unless_authority (ca_refusal c) (signer (usage c) (code_signing c)))
          (eqb-false c.version 3 not_so)) ∙ is in cc)
    ]

pub leaf_again : (c : Cert) → IsLeaf c → leaf_refusal c ≡ None
leaf_again c is =
    leaf_signs c is.key_cert_sign is.version is.end_entity is.usage
    ∙ ap (λ (w : Held Bool). signs_code w) (said_purposes c true is.code_signing)
