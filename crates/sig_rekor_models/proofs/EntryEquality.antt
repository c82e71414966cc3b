-- The derived `==` of log entries and their bodies is equality of all that is seen of them.
-- An equality is a path from one side to the other; the path of a record is the record of the paths of its parts.
use Rattle.std.proofs.Common.{◌≡◌, Bool, refl, ap}
use Rattle.std.proofs.lemmas.Bool.Decides.{Decides-and, Decides-int_eq}
use Rattle.std.specs.Bool.{Decides}
use Rattle.sig_base.proofs.Decisions.{decides_bytes, decides_result, decides_same}
use Rattle.sig_json.specs.SameTreeProofs.{same_tree_exact}
use Rattle.sig_json.specs.Tree.{document_tree}
use Rattle.sig_rekor.proofs.Equality.{api_proof_eq-tells}
use Rattle.sig_base.proofs.PartEquality.{decides_option}
use Rattle.sig_rekor_models.proofs.KindEquality.{apart}
use Rattle.sig_rekor_models.specs.Body.{Body, Content, kind_of, seen_body, seen_body_content}
use Rattle.sig_rekor_models.specs.LogEntry.{seen_entry}
use Rattle.sig_rekor_models.specs.contracts.body.BodyContentPartialEq.TheImpl as content_eq
use Rattle.sig_rekor_models.specs.contracts.body.BodyPartialEq.TheImpl as body_eq
use Rattle.sig_rekor_models.specs.contracts.log_entry.AttestationPartialEq.TheImpl as attestation_eq
use Rattle.sig_rekor_models.specs.contracts.log_entry.LogEntryPartialEq.TheImpl as entry_eq
use Rattle.sig_rekor_models.specs.contracts.log_entry.VerificationPartialEq.TheImpl as verification_eq
use Rattle.sig_rekor_models.specs.declared.body.Body.{Body as HeldBody}
use Rattle.sig_rekor_models.specs.declared.body.Body.TheVariants.{alpine, hashedrekord, helm, intoto, jar, rekord}
use Rattle.sig_rekor_models.specs.declared.body.Body.TheVariants.{rfc3161, rpm, tuf}
use Rattle.sig_rekor_models.specs.declared.body.BodyContent.{BodyContent}
use Rattle.sig_rekor_models.specs.declared.entry_kind.EntryKind.{EntryKind}
use Rattle.sig_rekor_models.specs.declared.entry_kind.EntryKind.TheVariants as kinds
use Rattle.sig_rekor_models.specs.declared.log_entry.Attestation.{Attestation}
use Rattle.sig_rekor_models.specs.declared.log_entry.LogEntry.{LogEntry as HeldEntry}
use Rattle.sig_rekor_models.specs.declared.log_entry.Verification.{Verification}

-- ---- what a log proves and promises, and what is kept beside it

attestation_eq-tells : (a b : Attestation) → Decides ((attestation_eq.ghosts).eq a b) (a ≡ b)
attestation_eq-tells a b =
    decides_same _ (λ e i. record { dummy = e i }) (λ e. rw e refl)
    (decides_option _ decides_bytes a.dummy b.dummy)

verification_eq-tells : (a b : Verification) → Decides ((verification_eq.ghosts).eq a b) (a ≡ b)
verification_eq-tells a b =
    decides_same _ (λ e i. record { inclusion_proof = e.0 i; signed_entry_timestamp = e.1 i }) (λ e. rw e (refl, refl))
    (Decides-and _ _ (decides_option _ api_proof_eq-tells a.inclusion_proof b.inclusion_proof)
    (decides_bytes a.signed_entry_timestamp b.signed_entry_timestamp))

pub attestation_law : (a b : Attestation) (r : Bool) → r ≡ (attestation_eq.ghosts).eq a b → Decides r (a ≡ b)
attestation_law a b r is = decides_result r _ is (attestation_eq-tells a b)

pub verification_law : (a b : Verification) (r : Bool) → r ≡ (verification_eq.ghosts).eq a b → Decides r (a ≡ b)
verification_law a b r is = decides_result r _ is (verification_eq-tells a b)

-- ---- bodies

content_eq-tells : (a b : BodyContent)
    → Decides ((content_eq.ghosts).eq a b) (seen_body_content a ≡ seen_body_content b)
content_eq-tells a b =
    decides_same _ (λ e i. record { api_version = e.0 i; spec = e.1 i })
    (λ e. (λ i. (e i).api_version, λ i. (e i).spec))
    (Decides-and _ _ (decides_bytes a.api_version b.api_version)
    (same_tree_exact (document_tree a.spec) (document_tree b.spec) a.spec.without_float))

abbrev of_kind : EntryKind → Content → Body
of_kind kind content = record { kind = kind; api_version = content.api_version; spec = content.spec }

abbrev without_kind : Body → Content
without_kind body = record { api_version = body.api_version; spec = body.spec }

-- of bodies of one kind
same_kind : (kind : EntryKind) (a b : BodyContent)
    → Decides ((content_eq.ghosts).eq a b) (of_kind kind (seen_body_content a) ≡ of_kind kind (seen_body_content b))
same_kind kind a b =
    decides_same _ (λ e. ap (of_kind kind) e) (λ e. ap without_kind e) (content_eq-tells a b)

body_eq-tells : (a b : HeldBody) → Decides ((body_eq.ghosts).eq a b) (seen_body a ≡ seen_body b)
body_eq-tells (alpine x) (alpine y) = same_kind kinds.Alpine x y
body_eq-tells (hashedrekord x) (hashedrekord y) = same_kind kinds.Hashedrekord x y
body_eq-tells (helm x) (helm y) = same_kind kinds.Helm x y
body_eq-tells (intoto x) (intoto y) = same_kind kinds.Intoto x y
body_eq-tells (jar x) (jar y) = same_kind kinds.Jar x y
body_eq-tells (rekord x) (rekord y) = same_kind kinds.Rekord x y
body_eq-tells (rfc3161 x) (rfc3161 y) = same_kind kinds.Rfc3161 x y
body_eq-tells (rpm x) (rpm y) = same_kind kinds.Rpm x y
body_eq-tells (tuf x) (tuf y) = same_kind kinds.Tuf x y
body_eq-tells a b = apart (kind_of a) (kind_of b) _ refl refl (λ e. ap (λ (body : Body). body.kind) e)

pub content_law : (a b : BodyContent) (r : Bool) → r ≡ (content_eq.ghosts).eq a b
    → Decides r (seen_body_content a ≡ seen_body_content b)
content_law a b r is = decides_result r _ is (content_eq-tells a b)

pub body_law : (a b : HeldBody) (r : Bool) → r ≡ (body_eq.ghosts).eq a b → Decides r (seen_body a ≡ seen_body b)
body_law a b r is = decides_result r _ is (body_eq-tells a b)

-- ---- entries

entry_eq-tells : (a b : HeldEntry) → Decides ((entry_eq.ghosts).eq a b) (seen_entry a ≡ seen_entry b)
entry_eq-tells a b =
    decides_same _ (λ e i. record {
      uuid = e.0 i;
      attestation = e.1.0 i;
      body = e.1.1.0 i;
      integrated_time = e.1.1.1.0 i;
      log_i_d = e.1.1.1.1.0 i;
      log_index = e.1.1.1.1.1.0 i;
      verification = e.1.1.1.1.1.1 i;
    })
    (λ e. (
      λ i. (e i).uuid,
      (
        λ i. (e i).attestation,
        (
          λ i. (e i).body,
          (
            λ i. (e i).integrated_time,
            (λ i. (e i).log_i_d, (λ i. (e i).log_index, λ i. (e i).verification)),
          ),
        ),
      ),
    ))
    (Decides-and _ _ (decides_option _ decides_bytes a.uuid b.uuid)
    (Decides-and _ _ (decides_option _ attestation_eq-tells a.attestation b.attestation)
    (Decides-and _ _ (body_eq-tells a.body b.body)
    (Decides-and _ _ (Decides-int_eq a.integrated_time b.integrated_time)
    (Decides-and _ _ (decides_bytes a.log_i_d b.log_i_d) (Decides-and _ _ (Decides-int_eq a.log_index b.log_index)
    (verification_eq-tells a.verification b.verification)))))))

pub entry_law : (a b : HeldEntry) (r : Bool) → r ≡ (entry_eq.ghosts).eq a b → Decides r (seen_entry a ≡ seen_entry b)
entry_law a b r is = decides_result r _ is (entry_eq-tells a b)

pub ruleset equal_entries = (attestation_law, verification_law, content_law)
