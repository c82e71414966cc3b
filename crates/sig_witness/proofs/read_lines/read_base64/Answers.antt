-- The bytes of a line are those whose base64 it is.
use Rattle.std.proofs.Common.{◌≡◌, Some}
use Rattle.sig_base.specs.Base64.{base64_bytes}
use Rattle.sig_witness.proofs.ReadLines.{base64-of}
use Rattle.sig_witness.proofs.read_lines.read_base64.Goals as goal

pub returns-in-Some-clause-ok : goal.returns-in-Some-clause-ok
returns-in-Some-clause-ok c =
    let is : base64_bytes c.args.line.now ≡ Some c.in-Some.bytes =
    cc (c.in_ok-bytes.ensures, c.in-Some.is, c.as_bytes-2.ensures.value) in
    base64-of c.args.line.now c.in-Some.bytes (rw c.as_bytes.ensures.value at c.are_bytes.ensures)
    c.are_owned_bytes.ensures is
