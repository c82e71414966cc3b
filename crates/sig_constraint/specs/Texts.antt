-- *Accepted texts*: one text, or those in which a pattern has a match. What a pattern matches is what `regex` says of
-- it.
use Rattle.std.specs.Prelude.{ℕ, List, Bool, is_some}
use Rattle.std.specs.Str.{bytes_eq}
use Rattle.regex.specs.Patterns.{find_str}
use Rattle.regex.specs.Strings.{regex_pattern}
use Rattle.sig_constraint.specs.declared.string_verifier.StringVerifier.{StringVerifier}
use Rattle.sig_constraint.specs.declared.string_verifier.StringVerifier.TheVariants.{ExactMatch, Regex}

abbrev pub accepts : StringVerifier → List ℕ → Bool
accepts (ExactMatch exact) text = bytes_eq text exact
accepts (Regex pattern) text = is_some (find_str (regex_pattern pattern) text 0)
