use Rattle.sig_key.specs.Kind.{key_kind}
use Rattle.sig_key.proofs.KeyErrors.{clause-found, clause-supported, clause-malformed, clause-unsupported}
use Rattle.sig_key.proofs.verification_key.CosignVerificationKey.try_from_der.Goals as goal

pub returns-clause-found : goal.returns-clause-found
returns-clause-found c =
    clause-found c.args.der.now (key_kind c.args.der.now) c.of_kind.result c.of_kind.ensures.answer
    c.of_kind.ensures.kind c.of_kind.ensures.only

pub returns-clause-supported : goal.returns-clause-supported
returns-clause-supported c =
    clause-supported c.args.der.now (key_kind c.args.der.now) c.of_kind.result c.of_kind.ensures.answer
    c.of_kind.ensures.kind c.of_kind.ensures.only

pub returns-clause-malformed : goal.returns-clause-malformed
returns-clause-malformed c =
    clause-malformed c.args.der.now (key_kind c.args.der.now) c.of_kind.result c.of_kind.ensures.answer
    c.of_kind.ensures.kind c.of_kind.ensures.only

pub returns-clause-unsupported : goal.returns-clause-unsupported
returns-clause-unsupported c =
    clause-unsupported c.args.der.now (key_kind c.args.der.now) c.of_kind.result c.of_kind.ensures.answer
    c.of_kind.ensures.kind c.of_kind.ensures.only
