-- *Few questions*: how many rows there can be of signatures of certificates, and of SCTs.
use Rattle.std.specs.Prelude.{ℕ, ◌+◌, ◌*◌, ◌≤◌, Bool, List, length, nat_eq, count_by}
use Rattle.sig_base.specs.Checker.{operation_code}
use Rattle.sig_base.specs.declared.checker.AcceptedRow.{AcceptedRow}
use Rattle.sig_base.specs.declared.checker.Operation.{Operation}
use Rattle.sig_base.specs.declared.checker.Operation.TheVariants.{Point, Certificate}
use Rattle.sig_verify.specs.Links.{Inputs, OfRoot}
use Rattle.sig_verify.specs.RootLinks.{authorities}
use Rattle.sig_questions.specs.Questions.{AreQuestions}

abbrev pub is_of : Operation → AcceptedRow → Bool
is_of operation row = nat_eq (operation_code row.operation) (operation_code operation)

-- For this number of trust anchors: a bundle has at most 17 certificates, and of these at most 16 and the trust anchors
-- may have signed one. These bound the rows of signatures of certificates, and those of the certificate's SCT.
pub record AreFewBeside (anchors : ℕ) (rows : List AcceptedRow) : Type 0 where
  pub certificates : count_by (is_of Certificate) rows ≤ 17 * (16 + anchors)
  pub points : count_by (is_of Point) rows ≤ 16 + anchors

-- beside those that the trusted root gives at the time
abbrev pub AreFewQuestions : Inputs → List AcceptedRow → Type 0
AreFewQuestions i rows = OfRoot i (λ root. AreFewBeside (length (authorities root i.now)) rows)

-- a law of the definitions: the questions are few
abbrev pub QuestionsAreFew : Type 0
QuestionsAreFew = (i : Inputs) (rows : List AcceptedRow) → AreQuestions i rows → AreFewQuestions i rows
