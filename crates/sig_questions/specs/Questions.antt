-- What the list of questions is for, and when there is one: no other row matters, and a link is refused that fails
-- whatever the checker and the policy say.
use Rattle.std.specs.Prelude.{◌≡◌, ◌↔◌, ℕ, ◌<◌, ◌≤◌, true, List, [], ◌∷◌, ◌++◌, Contains}
use Rattle.std.specs.Prelude.{Result, Ok, Err}
use Rattle.std.specs.List.{AllByRecursion}
use Rattle.sig_base.specs.Rules.{FailsFirst}
use Rattle.sig_base.specs.declared.checker.AcceptedRow.{AcceptedRow}
use Rattle.sig_base.specs.declared.scheme.VerifyScheme.{VerifyScheme}
use Rattle.sig_policy.specs.Refusals.{not_found}
use Rattle.sig_verify.specs.Links.{EveryChainLinkHolds, HoldsOf, Inputs, OfPassed, OfRoot, Outside, chain_links}
use Rattle.sig_verify.specs.RootLinks.{OfTrust, rekor_keys}
use Rattle.sig_verify.specs.Verdict.{Checker, PolicyOf}
use Rattle.sig_verify.specs.declared.link.Link.{Link as LinkType}
use Rattle.sig_verify.specs.declared.link.Link.TheVariants.{RootJson, BundleJson, Fulcio, Anchor, Ctfe}
use Rattle.sig_verify.specs.declared.link.Link.TheVariants.{Material, Certificate, Leaf, RootInChain, Content}
use Rattle.sig_verify.specs.declared.link.Link.TheVariants.{Envelope, Entry, Profile, Issuance, Issuer}
use Rattle.sig_x509.specs.Path.{every_signature}
use Rattle.sig_questions.specs.Asked.{IsAskedBy}
use Rattle.sig_questions.specs.Lists.{questions_of}
use Rattle.sig_questions.specs.Rows.{HasScheme, bytes_of_rows, certificate_row, message_row, point_row, prehash_row}
use Rattle.sig_questions.specs.declared.listing.NoQuestions.{NoQuestions}
use Rattle.sig_questions.specs.declared.listing.NoQuestions.TheVariants.{Link, TooLong, OutOfMemory}

-- ---- nothing else matters

-- two checkers agree on each row of which this holds
pub record AgreeWhere (Holds : AcceptedRow → Type 0) (one other : Checker) : Type 0 where
  pub message : (scheme : VerifyScheme) (spki message signature : List ℕ)
      → Holds (message_row scheme spki message signature)
      → one.spki scheme spki message signature ≡ other.spki scheme spki message signature
  pub prehash : (scheme : VerifyScheme) (spki digest signature : List ℕ)
      → Holds (prehash_row scheme spki digest signature)
      → one.prehash scheme spki digest signature ≡ other.prehash scheme spki digest signature
  pub point : (point message signature : List ℕ) → Holds (point_row point message signature)
      → one.point point message signature ≡ other.point point message signature
  pub certificate : (issuer algorithm tbs signature : List ℕ)
      → Holds (certificate_row issuer algorithm tbs signature)
      → one.cert issuer algorithm tbs signature ≡ other.cert issuer algorithm tbs signature

-- this is the first link of the chain of trust that fails
abbrev pub FailsFirstInChain : Outside → Inputs → LinkType → Type 0
FailsFirstInChain o i link = FailsFirst (HoldsOf o i) chain_links link

-- the same links hold, the same is the first that fails, and all hold or not
pub record SameLinks (i : Inputs) (one other : Outside) : Type 0 where
  pub each : (link : LinkType) → HoldsOf one i link ↔ HoldsOf other i link
  pub first : (link : LinkType) → FailsFirstInChain one i link ↔ FailsFirstInChain other i link
  pub all : EveryChainLinkHolds one i ↔ EveryChainLinkHolds other i

-- under every policy, two checkers that say the same of these rows have the same links that hold
abbrev pub Suffices : (AcceptedRow → Type 0) → Inputs → Type 0
Suffices Holds i = (one other : Checker) (policy : PolicyOf) → AgreeWhere Holds one other
    → SameLinks i (record { checker = one; policy = policy }) (record { checker = other; policy = policy })

-- a law of the definitions: the questions are enough
abbrev pub QuestionsSuffice : Type 0
QuestionsSuffice = (i : Inputs) → Suffices (IsAskedBy i) i

-- ---- the list

-- these are the rows of what the root and the bundle give, in their order
abbrev pub AreQuestions : Inputs → List AcceptedRow → Type 0
AreQuestions i rows =
    OfRoot i (λ root. OfTrust root i.now (λ trust. OfPassed i (λ c. rows ≡ questions_of i.digest trust
    (rekor_keys root i.now) c)))

-- a law of the definitions: inputs have one list of questions
abbrev pub QuestionsAreOneList : Type 0
QuestionsAreOneList =
    (i : Inputs) (rows other : List AcceptedRow) → AreQuestions i rows → AreQuestions i other → rows ≡ other

-- a law of the definitions: each has a scheme that its operation may have
abbrev pub QuestionsHaveSchemes : Type 0
QuestionsHaveSchemes = (i : Inputs) (rows : List AcceptedRow) → AreQuestions i rows
    → (row : AcceptedRow) → Contains rows row → HasScheme row

-- they are too many
abbrev pub AreTooLong : Inputs → ℕ → Type 0
AreTooLong i most = (rows : List AcceptedRow) × AreQuestions i rows × (most < bytes_of_rows rows)

-- ---- the links that hold or fail whatever is asked

-- every signature is genuine, and the policy holds of every certificate
abbrev pub accepting : Outside
accepting = record {
  checker = record {
    spki = λ scheme spki message signature. true;
    prehash = λ scheme spki digest signature. true;
    point = λ point message signature. true;
    cert = every_signature;
  };
  policy = record { holds = λ c. true; refusal = λ c. not_found };
}

-- What a link requires beside signatures. Those before `issuer` ask for none; `issuer`, that a path would lead to a
-- trust anchor if every signature were genuine.
abbrev pub HoldsUnasked : Inputs → LinkType → Type 0
HoldsUnasked i link = HoldsOf accepting i link

-- the links before `issuer`
abbrev pub front_links : List LinkType
front_links =
    RootJson ∷ BundleJson ∷ Fulcio ∷ Anchor ∷ Ctfe
    ∷ Material ∷ Certificate ∷ Leaf ∷ RootInChain ∷ Content ∷ Envelope ∷ Entry ∷ Profile ∷ Issuance ∷ []

-- the links that are checked before there is a question: if all hold, `issuer` asks for the signature of the
-- certificate
abbrev pub question_links : List LinkType
question_links = front_links ++ Issuer ∷ []

-- whatever the checker and the policy say, the link is the first that fails
abbrev pub FailsForAll : Inputs → LinkType → Type 0
FailsForAll i link = (o : Outside) → FailsFirstInChain o i link

-- a law of the definitions: a link of these is the first that fails if and only if it is so whatever the checker and
-- the policy say
abbrev pub RefusalsAreForAll : Type 0
RefusalsAreForAll =
    (i : Inputs) (link : LinkType) → FailsFirst (HoldsUnasked i) question_links link ↔ FailsForAll i link

-- ---- the result

-- The rows, if these links hold and the rows are not too many; else why not. Since only one link is the first that
-- fails, and only these rows are the questions, this is exact both ways.
abbrev pub IsDecided : Inputs → ℕ → Result (List AcceptedRow) NoQuestions → Type 0
IsDecided i most (Ok rows) =
    AllByRecursion (HoldsUnasked i) question_links × AreQuestions i rows × (bytes_of_rows rows ≤ most)
IsDecided i most (Err TooLong) = AllByRecursion (HoldsUnasked i) question_links × AreTooLong i most
IsDecided i most (Err (Link link)) = FailsFirst (HoldsUnasked i) question_links link
IsDecided i most (Err OutOfMemory) = Unit {0}
