use Rattle.sig_request.proofs.DigestTexts.{stripped}
use Rattle.sig_request.proofs.digest_text.text_after.Goals as goal

pub returns : goal.returns
returns c = stripped c.args.beginning.now c.args.text.now c.strip_prefix.result c.strip_prefix.ensures.cases
