-- Each question matters: with its row in a table a link holds that does not hold without it.
use Rattle.std.proofs.Common.{◌≡◌, ◌⊎◌, ℕ, zero, suc, Bool, true, false, ◌||◌, List, [], ◌∷◌, ◌++◌, Some, inl, inr, refl, sym}
use Rattle.std.proofs.Common.{ap, subst, ◌∙◌}
use Rattle.std.specs.List.{list_any}
use Rattle.std.specs.Prelude.{Contains, is_some, slice_get}
use Rattle.std.proofs.Math.Bool.{or-true}
use Rattle.std.proofs.lemmas.List.Elements.{Contains-append_cases, Contains-append_left}
use Rattle.sig_base.proofs.AcceptedRows.{accepted-rows}
use Rattle.sig_base.proofs.OptionSteps.{some_is}
use Rattle.sig_base.specs.Checker.{accepted}
use Rattle.sig_base.specs.declared.checker.AcceptedRow.{AcceptedRow}
use Rattle.sig_base.specs.declared.checker.Operation.TheVariants as kinds
use Rattle.sig_base.specs.declared.scheme.VerifyScheme.{VerifyScheme}
use Rattle.sig_checked_bundle.specs.Checked.{Checked}
use Rattle.sig_bundle.specs.Promise.{promise_of_entry}
use Rattle.sig_checked_bundle.specs.declared.content_check.CheckedContent.{CheckedContent}
use Rattle.sig_checked_bundle.specs.declared.content_check.CheckedContent.TheVariants.{MessageSignature, Dsse}
use Rattle.sig_certificate.specs.Certificate.{Cert}
use Rattle.sig_dsse.specs.declared.artifact_digest.ArtifactDigest.{ArtifactDigest}
use Rattle.sig_dsse.specs.declared.artifact_digest.ArtifactDigest.TheVariants.{Sha256, Sha512}
use Rattle.sig_rekor.specs.NoteText.{note_text}
use Rattle.sig_rekor.specs.Verify.{has_accepted_signature}
use Rattle.sig_rekor.specs.declared.checkpoint.CheckpointSignature.{CheckpointSignature}
use Rattle.sig_timestamp.specs.SctBytes.{signed_bytes, signed_of}
use Rattle.sig_verify.specs.CertificateLinks.{HasIssuer, HasSignedBytes, IsContentSignedUnder, IsSignedContent}
use Rattle.sig_verify.specs.CertificateLinks.{IsVouchedFor}
use Rattle.sig_verify.specs.EntryLinks.{HasCanonicalPromise, IsNoteSignedBy, IsPromisedBy}
use Rattle.sig_verify.specs.Links.{Inputs}
use Rattle.sig_verify.specs.Verdict.{Checker}
use Rattle.sig_verify.specs.declared.link.Link.TheVariants.{Issuer, Sct, Signature, Promise, NoteKey}
use Rattle.sig_checked_bundle.proofs.Certificates.{OneCertificate}
use Rattle.sig_x509.specs.Path.{IsPath, every_signature}
use Rattle.sig_x509.specs.Pool.{pool_over}
use Rattle.sig_verify.proofs.Parts.{Parts, AnchoredParts, checked_from, checked_to, log_keys_of, logged_to, of_checked, of_logged}
use Rattle.sig_verify.proofs.Parts.{trust_with}
use Rattle.sig_questions.proofs.RowLaws.{has_one}
use Rattle.sig_questions.specs.Asked.{IsCertificateRow, IsContentRow, IsNoteRow, IsPointRow, IsPromiseRow}
use Rattle.sig_questions.specs.Asked.{IsSignatureRow, OfPath, issuer_in, signature_row}
use Rattle.sig_questions.proofs.PathTables.{after, issued_row, issuer_with, not_rest, rest_from, rest_rows}
use Rattle.sig_questions.proofs.Shortcuts.{IsSplit, shortcut_or_none, split_at, step_matters}
use Rattle.sig_questions.specs.Matters.{EachQuestionMatters, HasShortcut, Matters, OfStep, RestsOn, checker_with, last_of}
use Rattle.sig_questions.specs.Rows.{message_row, point_row, prehash_row}

-- ---- tables

no_truth : false ≡ true → ⊥
no_truth wrong = cc

in_front : (row : AcceptedRow) (rows : List AcceptedRow)
    → accepted (row ∷ rows) row.operation row.scheme row.key row.message row.signature ≡ true
in_front row rows =
    (accepted-rows (row ∷ rows) row.operation row.scheme row.key row.message row.signature).1
    (Contains-append_left (row ∷ []) rows row ((has_one row row).1 refl))

any_has : {X : Type 0} (p : X → Bool) (xs : List X) (index : ℕ) (x : X) → slice_get xs index ≡ Some x → p x ≡ true
    → list_any p xs ≡ true
any_has p [] index x there is = absurd cc
any_has p (y ∷ ys) zero x there is =
    ap (λ b. b || list_any p ys) (ap p (some_is y x there) ∙ is)
any_has p (y ∷ ys) (suc index) x there is =
    ap (λ b. p y || b) (any_has p ys index x there is) ∙ or-true (p y)

any_none : {X : Type 0} (xs : List X) → list_any (λ (x : X). false) xs ≡ false
any_none [] = refl
any_none (x ∷ xs) = any_none xs

-- ---- its SCT

same_key : (a b : AcceptedRow) → a ≡ b → a.key ≡ b.key
same_key a b e = ap (λ (r : AcceptedRow). r.key) e

other_operation : (a b : AcceptedRow) → a.operation ≡ kinds.Certificate → b.operation ≡ kinds.Point → a ≡ b → ⊥
other_operation a b certificate point e =
    let wrong : kinds.Certificate ≡ kinds.Point =
    sym certificate ∙ ap (λ (r : AcceptedRow). r.operation) e ∙ point in cc

point_matters : OneCertificate → {i : Inputs} (p : AnchoredParts i) (row : AcceptedRow)
    → IsPointRow (trust_with p) p.parts.checked row → Matters i row
point_matters one {i} p row (path, anchor, on, (s, has, (long, short, point, at, is))) =
    let d : Cert = p.parts.checked.certificate in
    let y : Cert = issuer_in path anchor in
    let its : AcceptedRow = point_row point (signed_bytes (signed_of d y.spki s)) s.signature in
    let other : AcceptedRow = signature_row d y in
    let later : List AcceptedRow = rest_rows path anchor in
    let table : List AcceptedRow = its ∷ other ∷ later in
    let k : Checker = checker_with table in
    let issuer : HasIssuer k (trust_with p) p.parts.checked =
    issuer_with one p path anchor on table (λ r in_path. after its r (other ∷ later) in_path) in
    let z : Cert = issuer.first.path.certificate in
    let there = issued_row table (pool_over p.anchors p.parts.checked.further) d issuer.issuer issuer.first.path in
    let key : z.spki ≡ y.spki =
    key_of its d y z later refl (not_rest one p path anchor on z) there in
    let vouched : k.point point (signed_bytes (signed_of d z.spki s)) s.signature ≡ true =
    subst (λ (spki : List ℕ). k.point point (signed_bytes (signed_of d spki s)) s.signature ≡ true) (sym key)
    (in_front its (other ∷ later)) in
    subst (Matters i) (sym is) (
      Sct,
      (
        other ∷ later,
        λ policy. (
          (
            checked_to p (λ trust e. HasSignedBytes e.certificate) (s, has, (long, short)),
            checked_to p (λ trust e. IsVouchedFor k trust e) (
              s,
              has,
              record { issuer = issuer.issuer; first = issuer.first; holds = (point, at, vouched) },
            ),
          ),
          (λ holds.
              let of = checked_from one p (λ trust e. IsVouchedFor (checker_with (other ∷ later)) trust e) holds.1 in
              no_point d y path anchor
              ((accepted-rows (other ∷ later) kinds.Point [] of.2.holds.0
              (signed_bytes (signed_of d of.2.first.path.certificate.spki of.0)) of.0.signature).0 of.2.holds.2)),
        ),
      ),
    )
  where
    key_of : (its : AcceptedRow) (d y z : Cert) (later : List AcceptedRow) → its.operation ≡ kinds.Point
        → (Contains later (signature_row d z) → ⊥)
        → Contains (its ∷ signature_row d y ∷ later) (signature_row d z) → z.spki ≡ y.spki
    key_of its d y z later point_operation not_later in_table =
        elim (Contains-append_cases (its ∷ []) (signature_row d y ∷ later) (signature_row d z) in_table) [
          | inl here ↦
              absurd (other_operation (signature_row d z) its refl point_operation
              ((has_one its (signature_row d z)).0 here))
          | inr after ↦
              elim (Contains-append_cases (signature_row d y ∷ []) later (signature_row d z) after) [
                | inl its_row ↦
                    same_key (signature_row d z) (signature_row d y)
                    ((has_one (signature_row d y) (signature_row d z)).0 its_row)
                | inr last ↦ absurd (not_later last)
              ]
        ]

    -- rows of certificates are none of points
    no_point : (d y : Cert) (path : List Cert) (anchor : Cert) {key message signature : List ℕ}
        → Contains (signature_row d y ∷ rest_rows path anchor) (point_row key message signature) → ⊥
    no_point d y path anchor {key = key} {message = message} {signature = signature} in_table =
        elim (Contains-append_cases (signature_row d y ∷ []) (rest_rows path anchor) (point_row key message signature)
        in_table) [
          | inl here ↦
              other_operation (signature_row d y) (point_row key message signature) refl refl
              (sym ((has_one (signature_row d y) (point_row key message signature)).0 here))
          | inr later ↦
              (let found = rest_from path anchor (point_row key message signature) later in
              other_operation (signature_row found.1 found.3) (point_row key message signature) refl refl
              (sym found.4))
        ]

-- ---- the content

signed_with : (scheme : VerifyScheme) (spki : List ℕ) (d : ArtifactDigest) (content : CheckedContent)
    (signature : List ℕ) (row : AcceptedRow) → IsSignatureRow scheme spki d content signature row
    → IsContentSignedUnder ((checker_with (row ∷ [])).spki scheme spki)
    ((checker_with (row ∷ [])).prehash scheme spki) d
    content signature
signed_with scheme spki d (Dsse pae digests envelope payload) signature row is =
    let its : AcceptedRow = message_row scheme spki pae signature in
    subst (λ (r : AcceptedRow). (checker_with (r ∷ [])).spki scheme spki pae signature ≡ true) (sym is)
    (in_front its [])
signed_with scheme spki (Sha256 bytes) MessageSignature signature row is =
    let its : AcceptedRow = prehash_row scheme spki bytes signature in
    subst (λ (r : AcceptedRow). (checker_with (r ∷ [])).prehash scheme spki bytes signature ≡ true) (sym is)
    (in_front its [])
signed_with scheme spki (Sha512 bytes) MessageSignature signature row is = absurd is

never_signed : (d : ArtifactDigest) (content : CheckedContent) (signature : List ℕ)
    → IsContentSignedUnder (λ message s. false) (λ digest s. false) d content signature → ⊥
never_signed d (Dsse pae digests envelope payload) signature signed = no_truth signed
never_signed (Sha256 bytes) MessageSignature signature signed = no_truth signed
never_signed (Sha512 bytes) MessageSignature signature signed = signed

content_matters : {i : Inputs} (p : AnchoredParts i) (row : AcceptedRow)
    → IsContentRow i.digest p.parts.checked row → Matters i row
content_matters {i} p row (scheme, kind, is) =
    let c : Checked = p.parts.checked in (
      Signature,
      (
        [],
        λ policy. (
          checked_to p (λ trust d. IsSignedContent (checker_with (row ∷ [])) i.digest d)
              (scheme, kind, signed_with scheme c.certificate.spki i.digest c.content c.signature row is),
          of_checked i (λ trust d. IsSignedContent (checker_with []) i.digest d) ⊥
              (λ q of. never_signed i.digest q.parts.checked.content q.parts.checked.signature of.2),
        ),
      ),
    )

-- ---- the log entry

promise_matters : {i : Inputs} (p : Parts i) (row : AcceptedRow) → IsPromiseRow (log_keys_of p) p.checked.entry row
    → Matters i row
promise_matters {i} p row (key, has_key, (exact, promise, there, is)) =
    let its : AcceptedRow = message_row key.0 key.1 (promise_of_entry p.checked.entry) promise in
    subst (Matters i) (sym is) (
      Promise,
      (
        [],
        λ policy. (
          (
            logged_to p (λ keys e. HasCanonicalPromise e) (ap is_some there, exact),
            logged_to p (λ keys e. IsPromisedBy (checker_with (its ∷ [])).spki keys e)
                (key, has_key, (promise, there, in_front its [])),
          ),
          (λ holds. of_logged i (λ keys e. IsPromisedBy (checker_with []).spki keys e) ⊥ (λ q of. no_truth of.2.2)
              holds.1),
        ),
      ),
    )

note_matters : {i : Inputs} (p : Parts i) (row : AcceptedRow) → IsNoteRow (log_keys_of p) p.checked.entry row
    → Matters i row
unfolding has_accepted_signature
note_matters {i} p row (key, has_key, (proof, proof_is, (n, text, (index, s, there, is)))) =
    let its : AcceptedRow = message_row key.0 key.1 (note_text n.note) s.raw in
    let signs : CheckpointSignature → Bool =
    λ g. (checker_with (its ∷ [])).spki key.0 key.1 (note_text n.note) g.raw in
    subst (Matters i) (sym is) (
      NoteKey,
      (
        [],
        λ policy. (
          logged_to p (λ keys e. IsNoteSignedBy (checker_with (its ∷ [])).spki keys e) (
            key,
            has_key,
            (proof, proof_is, (n, text, any_has signs n.signatures index s there (in_front its []))),
          ),
          of_logged i (λ keys e. IsNoteSignedBy (checker_with []).spki keys e) ⊥
              (λ q (at, has_at, (found, found_is, (m, read, signed))). no_truth (sym (any_none m.signatures) ∙ signed)),
        ),
      ),
    )

-- ---- all of them

abbrev OrShortcut : Inputs → AcceptedRow → Type 0
OrShortcut i row = Matters i row ⊎ OfStep i row HasShortcut

signature_matters : OneCertificate → {i : Inputs} (p : AnchoredParts i) (row : AcceptedRow)
    → IsCertificateRow (trust_with p) p.parts.checked row → OrShortcut i row
signature_matters one {i} p row (path, anchor, is, (y, x, next, same)) =
    by (shortcut_or_none (trust_with p) split.lower split.upper)
  where
    c : Cert
    c = p.parts.checked.certificate

    split : IsSplit c path anchor (signature_row y x)
    split = split_at c path anchor y x next

    by : HasShortcut (trust_with p) split.lower split.upper ⊎ (¬ HasShortcut (trust_with p) split.lower split.upper)
        → OrShortcut i row
    by (inl shortcut) =
        inr (checked_to p (λ trust d. OfPath trust d (λ over top. (lower : List Cert) × (upper : List Cert)
        × (over ≡ lower ++ upper) × (row ≡ signature_row (last_of d.certificate lower) (issuer_in upper top))
        × HasShortcut trust lower upper))
        (path, anchor, is, (split.lower, split.upper, split.whole, same ∙ split.is, shortcut)))
    by (inr plain) =
        let on = subst (λ (ws : List Cert). IsPath every_signature (pool_over p.anchors p.parts.checked.further) c
        c.not_before ws anchor) split.whole is in
        inl (
          Issuer,
          subst (RestsOn i Issuer) (sym (same ∙ split.is))
              (step_matters one p split.lower split.upper anchor on plain),
        )

pub questions_matter : OneCertificate → EachQuestionMatters
questions_matter one i row (inl certificate) =
    of_checked i (λ trust c. IsCertificateRow trust c row) (OrShortcut i row)
    (λ p. signature_matters one p row) certificate
questions_matter one i row (inr (inl point)) =
    inl (of_checked i (λ trust c. IsPointRow trust c row) (Matters i row) (λ p. point_matters one p row) point)
questions_matter one i row (inr (inr (inl content))) =
    inl (of_checked i (λ trust c. IsContentRow i.digest c row) (Matters i row) (λ p. content_matters p row) content)
questions_matter one i row (inr (inr (inr (inl promise)))) =
    inl (of_logged i (λ keys e. IsPromiseRow keys e row) (Matters i row) (λ p. promise_matters p row) promise)
questions_matter one i row (inr (inr (inr (inr note)))) =
    inl (of_logged i (λ keys e. IsNoteRow keys e row) (Matters i row) (λ p. note_matters p row) note)
