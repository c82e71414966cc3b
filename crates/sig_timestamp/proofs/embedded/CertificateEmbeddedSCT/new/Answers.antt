-- Each refusal comes if and only if the relations say.
use Rattle.sig_timestamp.specs.Embedded.{issuer_in_chain}
use Rattle.sig_timestamp.proofs.EmbeddedLaws.{under_issuer, under_missing, under_malformed}
use Rattle.sig_timestamp.proofs.embedded.CertificateEmbeddedSCT.new.Goals as goal

pub returns-clause-issuer : goal.returns-clause-issuer
returns-clause-issuer c =
    under_issuer c.args.leaf.now (issuer_in_chain c.args.chain.now) c.embed_under.result c.embed_under.ensures

pub returns-clause-missing : goal.returns-clause-missing
returns-clause-missing c =
    under_missing c.args.leaf.now (issuer_in_chain c.args.chain.now) c.embed_under.result c.embed_under.ensures

pub returns-clause-malformed : goal.returns-clause-malformed
returns-clause-malformed c =
    under_malformed c.args.leaf.now (issuer_in_chain c.args.chain.now) c.embed_under.result c.embed_under.ensures
