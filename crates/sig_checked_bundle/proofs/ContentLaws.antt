-- The content passes if and only if it is a signature over an artifact, or an envelope of which all rules hold.
use Rattle.std.proofs.Common.{◌≡◌, inl, inr, ℕ, List, [], ◌∷◌, Option, Some, None, Result, Ok, Err, refl, sym, ap}
use Rattle.std.proofs.Common.{subst, ◌∙◌}
use Rattle.sig_base.proofs.ResultSteps.{ok_is, bind_ok, bind_of_ok}
use Rattle.sig_dsse.proofs.NamedDigests.{takes_the_named}
use Rattle.sig_dsse.specs.EnvelopeText.{envelope_text}
use Rattle.sig_dsse.specs.Pae.{pae}
use Rattle.sig_dsse.specs.Recognized.{digests_or_fault}
use Rattle.sig_dsse.specs.Statement.{Statement, statement_of}
use Rattle.sig_dsse.specs.declared.artifact_digest.ArtifactDigest.{ArtifactDigest}
use Rattle.sig_dsse.specs.declared.envelope.DsseEnvelope.{DsseEnvelope as EnvelopeRecord}
use Rattle.sig_dsse.specs.declared.envelope.DsseSignature.{DsseSignature}
use Rattle.sig_dsse.specs.declared.recognized.SubjectFault.{SubjectFault}
use Rattle.sig_checked_bundle.specs.Content.{ContentWithSignature, content_with_signature, digests_in, envelope_content}
use Rattle.sig_checked_bundle.specs.Content.{signature_among, statement_or_refusal, under_bundle_names}
use Rattle.sig_checked_bundle.specs.Passed.{IsContentOf, IsEnvelopeOf, IsMessageOf}
use Rattle.sig_bundle.specs.declared.bundle.Content.{Content}
use Rattle.sig_bundle.specs.declared.bundle.Content.TheVariants.{MessageSignature, DsseEnvelope}
use Rattle.sig_bundle.specs.declared.bundle.MessageSignature.{MessageSignature as MessageRecord}
use Rattle.sig_checked_bundle.specs.declared.content_check.CheckedContent.{CheckedContent}
use Rattle.sig_checked_bundle.specs.declared.content_check.CheckedContent.TheVariants.{Dsse}

pub sole_signature : (signatures : List DsseSignature) → (s : DsseSignature) → signature_among signatures ≡ Ok s
    → signatures ≡ s ∷ []
sole_signature [] s is = absurd cc
sole_signature (one ∷ []) s is = ap (λ x. x ∷ []) (ok_is one s is)
sole_signature (one ∷ other ∷ others) s is = absurd cc

pub stated : (read : Option Statement) → (statement : Statement) → statement_or_refusal read ≡ Ok statement
    → read ≡ Some statement
stated None statement is = absurd cc
stated (Some s) statement is = ap Some (ok_is s statement is)

named : (found : Result (List ArtifactDigest) SubjectFault) → (digests : List ArtifactDigest)
    → under_bundle_names found ≡ Ok digests → found ≡ Ok digests
named (Err fault) digests is = absurd cc
named (Ok ds) digests is = ap Ok (ok_is ds digests is)

enveloped-held : (envelope : EnvelopeRecord) → (s : ContentWithSignature) → envelope_content envelope ≡ Ok s
    → IsEnvelopeOf (Some (DsseEnvelope envelope)) s.signature s.content
enveloped-held envelope s is =
    let one = bind_ok (signature_among envelope.signatures) _ s is in
    let digests = bind_ok (digests_in envelope.payload) _ s one.2 in
    let statement = bind_ok (statement_or_refusal (statement_of envelope.payload)) _ digests.0 digests.1 in
    let P : ContentWithSignature → Type 0 = λ x. IsEnvelopeOf (Some (DsseEnvelope envelope)) x.signature x.content in
    subst P (ok_is _ s digests.2) (record {
      envelope = envelope;
      held = refl;
      signature = one.0;
      only = sole_signature envelope.signatures one.0 one.1;
      same = refl;
      statement = statement.0;
      stated = stated (statement_of envelope.payload) statement.0 statement.1;
      digests = digests.0;
      named = (takes_the_named statement.0 digests.0).0 (named (digests_or_fault statement.0) digests.0 statement.2);
      over = refl;
    })

message-held : (message : MessageRecord) (s : ContentWithSignature)
    → content_with_signature (Some (MessageSignature message)) ≡ Ok s
    → IsMessageOf (Some (MessageSignature message)) s.signature s.content
message-held message s is =
    subst (λ (x : ContentWithSignature). IsMessageOf (Some (MessageSignature message)) x.signature x.content)
    (ok_is _ s is) (record { message = message; held = refl; same = refl; over = refl })

pub content-held : (content : Option Content) → (s : ContentWithSignature) → content_with_signature content ≡ Ok s
    → IsContentOf content s.signature s.content
content-held None s is = absurd cc
content-held (Some (MessageSignature message)) s is = inl (message-held message s is)
content-held (Some (DsseEnvelope envelope)) s is = inr (enveloped-held envelope s is)

enveloped-meant : (envelope : EnvelopeRecord) → (signature : DsseSignature) → (statement : Statement)
    → (digests : List ArtifactDigest)
    → envelope.signatures ≡ signature ∷ [] → statement_of envelope.payload ≡ Some statement
    → digests_or_fault statement ≡ Ok digests
    → envelope_content envelope ≡ Ok (record {
      signature = signature.sig;
      content = Dsse (pae envelope.payload_type envelope.payload) digests (envelope_text envelope) envelope.payload;
    })
enveloped-meant envelope signature statement digests only stated named =
    bind_of_ok (signature_among envelope.signatures) _ signature (rw only refl) ∙ bind_of_ok
    (digests_in envelope.payload) _ digests (rw (stated, named) refl)

pub content-meant : (content : Option Content) → (bytes : List ℕ) → (kept : CheckedContent)
    → IsContentOf content bytes kept
    → content_with_signature content ≡ Ok (record { signature = bytes; content = kept })
content-meant content bytes kept (inl m) =
    let P : Option Content → Type 0 = λ o. content_with_signature o ≡ Ok
    (record { signature = bytes; content = kept }) in
    subst P (sym m.held) (rw (m.over, ← m.same) refl)
content-meant content bytes kept (inr e) =
    let P : Option Content → Type 0 = λ o. content_with_signature o ≡ Ok
    (record { signature = bytes; content = kept }) in
    subst P (sym e.held) (enveloped-meant e.envelope e.signature e.statement e.digests e.only e.stated
    ((takes_the_named e.statement e.digests).1 e.named) ∙ rw (e.over, ← e.same) refl)
