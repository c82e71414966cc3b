use Rattle.std.proofs.Common.{option_map}
use Rattle.sig_attestation.proofs.AttestationLaws.{attested_found, attested_only, refused_found, refused_only}
use Rattle.sig_attestation.specs.Causes.{asked}
use Rattle.sig_attestation.proofs.attestation.read_attestation.Goals as goal

pub returns-clause-found : goal.returns-clause-found
returns-clause-found g c =
    attested_found (record { proofs = c.proofs.ensures; faults = c.proof_faults.ensures })
    (asked (g.C.SignatureChecker.spki_accepts c.args.checker.now) (option_map (λ k. k.now) c.args.rekor_pub_keys)
    c.args.source_image_digest.now c.args.bundle.now) c.attested_by_text.result c.attested_by_text.ensures.answer

pub returns-clause-only : goal.returns-clause-only
returns-clause-only g c =
    attested_only (record { proofs = c.proofs.ensures; faults = c.proof_faults.ensures })
    (asked (g.C.SignatureChecker.spki_accepts c.args.checker.now) (option_map (λ k. k.now) c.args.rekor_pub_keys)
    c.args.source_image_digest.now c.args.bundle.now) c.attested_by_text.result c.attested_by_text.ensures.answer

pub returns-clause-err : goal.returns-clause-err
returns-clause-err g c =
    refused_found (record { proofs = c.proofs.ensures; faults = c.proof_faults.ensures })
    (asked (g.C.SignatureChecker.spki_accepts c.args.checker.now) (option_map (λ k. k.now) c.args.rekor_pub_keys)
    c.args.source_image_digest.now c.args.bundle.now) c.attested_by_text.result c.attested_by_text.ensures.answer

pub returns-clause-refused : goal.returns-clause-refused
returns-clause-refused g c =
    refused_only (record { proofs = c.proofs.ensures; faults = c.proof_faults.ensures })
    (asked (g.C.SignatureChecker.spki_accepts c.args.checker.now) (option_map (λ k. k.now) c.args.rekor_pub_keys)
    c.args.source_image_digest.now c.args.bundle.now) c.attested_by_text.result c.attested_by_text.ensures.answer
