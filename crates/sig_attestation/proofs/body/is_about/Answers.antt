use Rattle.sig_checked_bundle.specs.DsseBody.{dsse_body_of}
use Rattle.sig_json.specs.Record.{record_in}
use Rattle.sig_attestation.proofs.Bodies.{about_told}
use Rattle.sig_attestation.proofs.body.is_about.Goals as goal

pub returns : goal.returns
returns c =
    about_told c.args.envelope.now c.args.payload.now c.args.signature.now c.args.certificate.now
    (record_in dsse_body_of c.args.body.now) c.is_about_envelope.result c.is_about_envelope.ensures
