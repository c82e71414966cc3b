-- *Trust chain*, its ten items, and all else that the links ask.
use Rattle.std.specs.Prelude.{◌≡◌, ◌≢◌, ◌↔◌, true, [], None}
use Rattle.std.specs.List.{AllByRecursion}
use Rattle.sig_checked_bundle.specs.Passed.{IsMet}
use Rattle.sig_checked_bundle.specs.SigningCertificate.{IsNoRoot}
use Rattle.sig_certificate.specs.Profile.{leaf_refusal}
use Rattle.sig_x509.specs.Issued.{HasProfile}
use Rattle.sig_verify.specs.BundleLinks.{AreFew, IsContentRead, OfCertificates, OfContent, OfEncodings, OfEntry}
use Rattle.sig_verify.specs.BundleLinks.{OfVersion}
use Rattle.sig_verify.specs.CertificateLinks.{HasIssuer, HasSignedBytes, IsAbout, IsSignedContent, IsTimely}
use Rattle.sig_verify.specs.CertificateLinks.{IsVouchedFor, OfScheme}
use Rattle.sig_verify.specs.EntryLinks.{HasCanonicalPromise, IsLed, IsNoteOf, IsNoteSignedBy, IsPlaced, IsPromisedBy}
use Rattle.sig_verify.specs.EntryLinks.{IsProofRead, OfCheckpoint, OfLogKey, OfProof}
use Rattle.sig_verify.specs.Links.{EveryChainLinkHolds, Inputs, OfBundle, OfChecked, OfLogged, OfRoot, Outside}
use Rattle.sig_verify.specs.RootLinks.{IsSomeAnchor, authorities, ct_keys}
use Rattle.sig_verify.specs.Verdict.{HasBody}

-- The bundle's certificate c, its log entry e, the inclusion proof p of e with the checkpoint n, and the key of the
-- log of e are meant. Signatures are genuine if the checker says so.
pub record TrustChain (o : Outside) (i : Inputs) : Type 0 where
  -- a certification path leads from c, at the first second of its validity, over the further certificates of the bundle
  -- to a trust anchor
  pub issuer : OfChecked i (λ trust c. HasIssuer o.checker trust c)
  -- c has one SCT, whose log signed it for c as issued under the key of the first issuer in such a path
  pub sct : OfChecked i (λ trust c. IsVouchedFor o.checker trust c)
  -- the policy holds of c
  pub policy : OfChecked i (λ trust c. o.policy.holds c.certificate ≡ true)
  -- the key of c signed the content, which is about the artifact
  pub signature : OfChecked i (λ trust c. IsSignedContent o.checker i.digest c)
      × OfChecked i (λ trust c. IsAbout c.content i.digest)
  -- the body of e is about the content, its signature and c, and about the artifact
  pub body : OfChecked i (λ trust c. HasBody c i.digest true)
  -- the log took e while c was valid
  pub time : OfChecked i (λ trust c. IsTimely c)
  -- the log signed its promise to include e
  pub promise : OfLogged i (λ keys e. IsPromisedBy o.checker.spki keys e)
  -- the log signed the note of n
  pub note_key : OfLogged i (λ keys e. IsNoteSignedBy o.checker.spki keys e)
  -- the note's size and hash are the size and the root of p
  pub note_match : OfLogged i (λ keys e. OfCheckpoint e IsNoteOf)
  -- the audit path of p leads from the body of e to the root of p
  pub inclusion : OfLogged i (λ keys e. OfProof e (IsLed e))

-- all else that the links ask: each text, list and member is what its format requires
pub record IsValid (o : Outside) (i : Inputs) : Type 0 where
  pub root_json : OfRoot i (λ root. Unit {0})
  pub bundle_json : OfBundle i (λ b. Unit {0})
  pub fulcio : OfRoot i (λ root. authorities root i.now ≢ [])
  pub anchor : OfRoot i (λ root. AllByRecursion IsSomeAnchor (authorities root i.now))
  pub ctfe : OfRoot i (λ root. ct_keys root i.now ≢ [])
  pub material : OfBundle i (λ b. OfEncodings b (λ ders. Unit {0}))
  pub certificate : OfBundle i (λ b. OfCertificates b (λ c further. AreFew further))
  pub leaf : OfBundle i (λ b. OfCertificates b (λ c further. leaf_refusal c ≡ None))
  pub root_in_chain : OfBundle i (λ b. OfCertificates b (λ c further. AllByRecursion IsNoRoot further))
  pub content : OfBundle i (λ b. OfContent b (λ content. Unit {0}))
  pub envelope : OfBundle i (λ b. OfContent b IsContentRead)
  pub entry : OfBundle i (λ b. OfEntry b (λ e. Unit {0}))
  pub profile : OfBundle i (λ b. OfVersion b (λ version. OfEntry b (IsMet version)))
  pub issuance : OfChecked i (λ trust c. HasProfile c.certificate)
  pub sct : OfChecked i (λ trust c. HasSignedBytes c.certificate)
  pub key : OfChecked i (λ trust c. OfScheme c.certificate (λ scheme. Unit {0}))
  pub log_key : OfLogged i (λ keys e. OfLogKey keys e (λ key. Unit {0}))
  pub promise : OfLogged i (λ keys e. HasCanonicalPromise e)
  pub proof : OfLogged i (λ keys e. OfProof e IsProofRead)
  pub checkpoint : OfLogged i (λ keys e. OfCheckpoint e (λ p n. Unit {0}))
  pub inclusion : OfLogged i (λ keys e. OfProof e IsPlaced)

-- every link holds if and only if the inputs are valid and the chain of trust holds
abbrev pub AllLinksAreTheTrustChain : Type 0
AllLinksAreTheTrustChain = (o : Outside) (i : Inputs) → EveryChainLinkHolds o i ↔ (IsValid o i × TrustChain o i)
