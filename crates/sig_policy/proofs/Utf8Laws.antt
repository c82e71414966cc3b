-- The text that bytes are, by whether they are UTF-8.
use Rattle.std.proofs.Common.{◌≡◌, ℕ, List, Some, None}
use Rattle.std.specs.Str.{IsUtf8, is_utf8}
use Rattle.std.proofs.lemmas.Bool.{cond-true, cond-false}
use Rattle.sig_base.proofs.Utf8Texts.{is_text, is_no_text}
use Rattle.sig_policy.specs.Texts.{utf8_text}

pub utf8_some : (bytes : List ℕ) → IsUtf8 bytes → utf8_text bytes ≡ Some bytes
unfolding utf8_text
utf8_some bytes is = cond-true (is_utf8 bytes) _ _ (is_text bytes is)

pub utf8_none : (bytes : List ℕ) → ¬ (IsUtf8 bytes) → utf8_text bytes ≡ None
unfolding utf8_text
utf8_none bytes isnt = cond-false (is_utf8 bytes) _ _ (is_no_text bytes isnt)
