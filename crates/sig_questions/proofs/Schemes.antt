-- Each question has a scheme that its operation may have.
use Rattle.std.proofs.Common.{◌≡◌, List, ◌++◌, refl, subst}
use Rattle.std.specs.Prelude.{Contains}
use Rattle.sig_base.specs.declared.checker.AcceptedRow.{AcceptedRow}
use Rattle.sig_checked_bundle.specs.Checked.{Checked}
use Rattle.sig_dsse.specs.declared.artifact_digest.ArtifactDigest.{ArtifactDigest}
use Rattle.sig_verify.specs.CertificateLinks.{Trust}
use Rattle.sig_verify.specs.EntryLinks.{LogKeys}
use Rattle.sig_verify.proofs.Parts.{log_keys_of, of_parts, trust_with}
use Rattle.sig_questions.proofs.QuestionKinds.{AllHave, both, certificates_had, others_had, points_had}
use Rattle.sig_questions.specs.Lists.{certificate_questions, content_questions, entry_questions, questions_of}
use Rattle.sig_questions.specs.Lists.{questions_after, sct_questions}
use Rattle.sig_questions.specs.Questions.{QuestionsHaveSchemes}
use Rattle.sig_questions.specs.Rows.{HasScheme}

all_had : (d : ArtifactDigest) (trust : Trust) (keys : LogKeys) (c : Checked)
    → AllHave HasScheme (questions_of d trust keys c)
all_had d trust keys c =
    both HasScheme (certificate_questions trust c) (questions_after d trust keys c)
    (certificates_had HasScheme (λ issuer algorithm tbs signature. tt) trust c)
    (both HasScheme (sct_questions trust c) (content_questions d c ++ entry_questions keys c.entry)
    (points_had HasScheme (λ key message signature. refl) trust c)
    (others_had HasScheme (λ s spki message signature. (s, refl)) (λ s spki digest signature. (s, refl)) d keys c))

pub questions_schemed : QuestionsHaveSchemes
questions_schemed i rows are row has =
    of_parts i (λ trust keys c. rows ≡ questions_of i.digest trust keys c) (HasScheme row)
    (λ p is. all_had i.digest (trust_with p) (log_keys_of p.parts) p.parts.checked row
    (subst (λ (rs : List AcceptedRow). Contains rs row) is has)) are
