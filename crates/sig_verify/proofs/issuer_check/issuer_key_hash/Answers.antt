use Rattle.std.proofs.Common.{sym, ◌∙◌}
use Rattle.sig_verify.proofs.Issuers.{hash_there}
use Rattle.sig_verify.proofs.issuer_check.issuer_key_hash.Goals as goal

pub unreachable-requires : goal.unreachable-requires
unreachable-requires g c =
    hash_there (g.C.SignatureChecker.cert_accepts c.args.checker.now) c.args.pool.now c.args.hashes.now
    c.requires.hashed c.args.further.now c.args.leaf.now c.in_ok-issuer.issuer c.in_ok-issuer.ensures
    (sym c.key_hash_of.ensures ∙ c.in-None.is)
