use Rattle.std.proofs.Common.{◌≡◌, drop}
use Rattle.sig_json.specs.Only.{is_among, names_of}
use Rattle.sig_json.proofs.kept.is_among.Given as goal

-- no name so far is the one: what is left decides
abbrev pub invariant-loop-listed : goal.invariant-loop-listed
invariant-loop-listed l =
    is_among (names_of l.fn.names) l.fn.name ≡ is_among (names_of (drop l.listed-index l.fn.names)) l.fn.name
