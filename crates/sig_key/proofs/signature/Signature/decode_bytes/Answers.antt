use Rattle.sig_key.proofs.SignatureTexts.{clause-found, clause-undecodable}
use Rattle.sig_key.proofs.signature.Signature.decode_bytes.Goals as goal

pub returns-clause-found : goal.returns-clause-found
returns-clause-found c =
    clause-found c.args.self.now c.is_of_bytes.ensures c.decoded.result c.decoded.ensures

pub returns-clause-undecodable : goal.returns-clause-undecodable
returns-clause-undecodable c =
    clause-undecodable c.args.self.now c.is_of_bytes.ensures c.decoded.result c.decoded.ensures
