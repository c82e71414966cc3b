-- Each question matters: some link depends on it. For the signature of a certificate this says exactly when `issuer`
-- does.
use Rattle.std.specs.Prelude.{◌≡◌, ◌⊎◌, ◌↔◌, List, [], ◌∷◌, ◌++◌, Contains}
use Rattle.sig_base.specs.Checker.{accepted}
use Rattle.sig_base.specs.Scheme.{name_of}
use Rattle.sig_base.specs.declared.checker.AcceptedRow.{AcceptedRow}
use Rattle.sig_base.specs.declared.checker.Operation.TheVariants.{Message, Prehash, Point, Certificate}
use Rattle.sig_certificate.specs.Certificate.{Cert}
use Rattle.sig_verify.specs.CertificateLinks.{Trust}
use Rattle.sig_verify.specs.Links.{HoldsOf, Inputs, OfChecked, Outside}
use Rattle.sig_verify.specs.Verdict.{Checker, PolicyOf}
use Rattle.sig_verify.specs.declared.link.Link.{Link}
use Rattle.sig_verify.specs.declared.link.Link.TheVariants.{Issuer}
use Rattle.sig_x509.specs.AskedAnchors.{IsSameSigner}
use Rattle.sig_questions.specs.Asked.{IsAskedBy, OfPath, issuer_in, signature_row}

-- ---- what it is to matter

-- exactly the signatures of a table's rows are genuine
abbrev pub checker_with : List AcceptedRow → Checker
checker_with rows = record {
  spki = λ scheme spki message signature. accepted rows Message (name_of scheme) spki message signature;
  prehash = λ scheme spki digest signature. accepted rows Prehash (name_of scheme) spki digest signature;
  point = λ point message signature. accepted rows Point [] point message signature;
  cert = λ issuer algorithm tbs signature. accepted rows Certificate algorithm issuer tbs signature;
}

abbrev pub table_with : List AcceptedRow → PolicyOf → Outside
table_with rows policy = record { checker = checker_with rows; policy = policy }

-- there is a table: with the row in it the link holds, and without the row the link does not
abbrev pub RestsOn : Inputs → Link → AcceptedRow → Type 0
RestsOn i link row = (rows : List AcceptedRow) × ((policy : PolicyOf)
    → HoldsOf (table_with (row ∷ rows) policy) i link × ¬ HoldsOf (table_with rows policy) i link)

-- there is such a link
abbrev pub Matters : Inputs → AcceptedRow → Type 0
Matters i row = (link : Link) × RestsOn i link row

-- ---- steps of a path that can be left out

-- the certificate that the last of these leads to, up from c
abbrev pub last_of : Cert → List Cert → Cert
last_of c [] = c
last_of c (x ∷ xs) = last_of x xs

-- The row is a step of a path that would lead from the certificate to a trust anchor, if every signature of a
-- certificate were genuine: over the lower intermediates to the last of them, whose signature this is, and on over the
-- upper ones, of which the first signed. Where there are no lower ones, the bundle's certificate is signed, and where
-- there are no upper ones, the trust anchor signed. This holds of the step.
abbrev pub OfStep : Inputs → AcceptedRow → (Trust → List Cert → List Cert → Type 0) → Type 0
OfStep i row P = OfChecked i (λ trust c. OfPath trust c (λ path anchor.
    (lower : List Cert) × (upper : List Cert) × (path ≡ lower ++ upper)
    × (row ≡ signature_row (last_of c.certificate lower) (issuer_in upper anchor)) × P trust lower upper))

-- A shortcut goes past the step: a lower intermediate has the subject and the SPKI of an upper one, or of a trust
-- anchor. Whom the lower one signed the other one signed as well, so that the path can go on from there and leave the
-- step out.
pub record HasShortcut (trust : Trust) (lower upper : List Cert) : Type 0 where
  pub below : Cert
  pub above : Cert
  pub from : Contains lower below
  pub to : Contains (upper ++ trust.anchors) above
  pub same : IsSameSigner below above

-- ---- the laws

-- A law of the definitions: no question is useless. Some link depends on each question, or it is the signature of an
-- intermediate in a path that has a shortcut past it.
abbrev pub EachQuestionMatters : Type 0
EachQuestionMatters = (i : Inputs) (row : AcceptedRow) → IsAskedBy i row → Matters i row ⊎ OfStep i row HasShortcut

-- A law of the definitions: `issuer` rests on a signature if and only if some path has it in a step that no shortcut
-- goes past.
abbrev pub IssuerRestsOnSteps : Type 0
IssuerRestsOnSteps = (i : Inputs) (row : AcceptedRow)
    → RestsOn i Issuer row ↔ OfStep i row (λ trust lower upper. ¬ HasShortcut trust lower upper)
