-- *Document* by the outcome of each step of its reading.
use Rattle.std.proofs.Common.{◌≡◌, ℕ, List, Some, None, Ok, Err, IsUtf8, true, false, refl}
use Rattle.std.proofs.lemmas.Str.{is_utf8-from_IsUtf8, IsUtf8-from_is_utf8}
use Rattle.std.specs.Str.{is_utf8}
use Rattle.serde_json.specs.Data.{Data}
use Rattle.serde_json.specs.Read.{read}
use Rattle.serde_json.specs.Written.{has_float}
use Rattle.sig_json.specs.Document.{document_of}
use Rattle.sig_json.specs.declared.error.DocumentError.TheVariants.{NotJson, Float}

pub document_of-not_utf8 : (text : List ℕ) → (IsUtf8 text → ⊥) → document_of text ≡ Err NotJson
unfolding document_of
document_of-not_utf8 text h =
    elim (is_utf8 text) as (λ b. is_utf8 text ≡ b → document_of text ≡ Err NotJson) [
      | true ↦ λ e. absurd (h (IsUtf8-from_is_utf8 text e))
      | false ↦ λ e. rw e refl
    ] refl

pub document_of-unread : (text : List ℕ) → IsUtf8 text → read text ≡ None → document_of text ≡ Err NotJson
unfolding document_of
document_of-unread text utf8 unread = rw (is_utf8-from_IsUtf8 text utf8, unread) refl

pub document_of-float : (text : List ℕ) (d : Data) → IsUtf8 text → read text ≡ Some d → has_float d ≡ true
    → document_of text ≡ Err Float
unfolding document_of
document_of-float text d utf8 tree float = rw (is_utf8-from_IsUtf8 text utf8, tree, float) refl

pub document_of-read : (text : List ℕ) (d : Data) → IsUtf8 text → read text ≡ Some d → has_float d ≡ false
    → document_of text ≡ Ok d
unfolding document_of
document_of-read text d utf8 tree none = rw (is_utf8-from_IsUtf8 text utf8, tree, none) refl

pub ruleset reading = (document_of-not_utf8, document_of-unread, document_of-float, document_of-read)
