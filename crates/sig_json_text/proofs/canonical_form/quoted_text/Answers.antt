use Rattle.sig_json_text.proofs.CanonicalTexts.{canon_string-compact}
use Rattle.sig_json_text.proofs.canonical_form.quoted_text.Goals as goal

pub returns : goal.returns
returns c = canon_string-compact _ _ _ c.in_ok-value.ensures c.in_ok-to_string.ensures.text
