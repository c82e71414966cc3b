use Rattle.std.proofs.Common.{◌≡◌, take}
use Rattle.sig_x509.specs.Possible.{column}
use Rattle.sig_x509.proofs.reach.column.Given as goal

-- the bits so far
abbrev pub invariant-rows : goal.invariant-rows
invariant-rows l = l.bits ≡ column (take l.row-index l.rows) l.place
