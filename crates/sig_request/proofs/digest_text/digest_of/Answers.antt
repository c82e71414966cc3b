use Rattle.std.proofs.Common.{◌∙◌}
use Rattle.sig_request.proofs.DigestTexts.{digest-only}
use Rattle.sig_request.proofs.digest_text.digest_of.Goals as goal

pub returns-clause-only : goal.returns-clause-only
returns-clause-only c =
    λ digest is. c.find_digest.ensures ∙ digest-only c.args.text.now digest is
