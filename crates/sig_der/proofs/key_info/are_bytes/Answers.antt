use Rattle.std.proofs.Common.{arith}
use Rattle.sig_der.proofs.key_info.are_bytes.Goals as goal

pub returns : goal.returns
returns c = λ i. omega (arith, c.type_inv.left i)
