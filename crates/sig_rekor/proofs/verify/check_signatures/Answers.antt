-- No signature is accepted.
use Rattle.std.proofs.Common.{◌≡◌, ◌∙◌, ap, inr, rules, sym}
use Rattle.sig_rekor.specs.Verify.{answer_if_signed}
use Rattle.sig_rekor.proofs.verify.check_signatures.Goals as goal

pub returns-else-branch : goal.returns-else-branch
returns-else-branch g c =
    let same : c.args.note.now ≡ c.as_bytes.result.now = search (rules, c.as_bytes, c.as_str) in
    inr (rw same (ap answer_if_signed (sym c.in_ok-accepts_one.ensures ∙ c.if-branch.false)))
