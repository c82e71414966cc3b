use Rattle.std.proofs.Common.{◌∙◌, sym, arith}
use Rattle.sig_json.proofs.ShortIntegers.{whole_digits}
use Rattle.sig_json.proofs.skip.is_short_integer.Goals as goal

pub returns-then-text-le-FEW_DIGITS : goal.returns-then-text-le-FEW_DIGITS
returns-then-text-le-FEW_DIGITS c is =
    whole_digits _ (grind arith) (grind arith) (sym c.are_decimal_digits.ensures ∙ is)
