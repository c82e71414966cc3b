use Rattle.std.proofs.Common.{◌≡◌, length, take}
use Rattle.std.specs.Char.Escape.{encode_utf16}
use Rattle.std.specs.List.{flat_map}
use Rattle.std.specs.Str.{chars}
use Rattle.sig_json_text.proofs.member_order.utf16_units.Given as goal

-- the units so far are those of the characters so far
abbrev pub invariant-units : goal.invariant-units
invariant-units l = l.units.items ≡ flat_map encode_utf16 (take (length l.yielded) (chars l.text))
