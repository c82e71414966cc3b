-- The rows under the key of an entry's log.
use Rattle.std.proofs.Common.{◌≡◌, ℕ, List, ◌++◌, Some, ap}
use Rattle.sig_base.specs.declared.scheme.VerifyScheme.{VerifyScheme}
use Rattle.sig_bundle.specs.declared.material.TransparencyLogEntry.{TransparencyLogEntry}
use Rattle.sig_key.specs.Kind.{key_kind}
use Rattle.sig_key.specs.declared.kind.KeyKind.{KeyKind}
use Rattle.sig_key.specs.declared.kind.KeyKind.TheVariants.{Scheme}
use Rattle.sig_questions.specs.Lists.{entry_questions_under, note_questions, if_scheme, promise_questions}

-- the rows under it
pub entry_under : (e : TransparencyLogEntry) (spki : List ℕ) (scheme : VerifyScheme) → Scheme scheme ≡ key_kind spki
    → promise_questions scheme spki e ++ note_questions scheme spki e ≡ entry_questions_under e (Some spki)
entry_under e spki scheme kind =
    ap (λ (k : KeyKind). if_scheme k (λ s. promise_questions s spki e ++ note_questions s spki e)) kind
