-- Each answer has its cause, and each cause its answer.
use Rattle.sig_timestamp.proofs.EmbeddedLaws.{embedded, missing, malformed}
use Rattle.sig_timestamp.proofs.embedded.CertificateEmbeddedSCT.new_with_issuer_key_hash.Goals as goal

pub returns-clause-embedded : goal.returns-clause-embedded
returns-clause-embedded c =
    embedded c.args.leaf.now c.args.issuer_key_hash c.embed.result c.embed.ensures.read c.embed.ensures.said

pub returns-clause-missing : goal.returns-clause-missing
returns-clause-missing c =
    missing c.args.leaf.now c.args.issuer_key_hash c.embed.result
    (embedded c.args.leaf.now c.args.issuer_key_hash c.embed.result c.embed.ensures.read c.embed.ensures.said)

pub returns-clause-malformed : goal.returns-clause-malformed
returns-clause-malformed c =
    malformed c.args.leaf.now c.args.issuer_key_hash c.embed.result
    (embedded c.args.leaf.now c.args.issuer_key_hash c.embed.result c.embed.ensures.read c.embed.ensures.said)
