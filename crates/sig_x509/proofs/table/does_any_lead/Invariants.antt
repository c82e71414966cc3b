use Rattle.std.proofs.Common.{◌≡◌, false, take}
use Rattle.std.specs.List.{list_any}
use Rattle.sig_x509.specs.Rows.{leads_next}
use Rattle.sig_x509.proofs.table.does_any_lead.Given as goal

-- none so far
abbrev pub invariant-places : goal.invariant-places
invariant-places l = list_any (leads_next l.row) (take l.place-index l.places) ≡ false
