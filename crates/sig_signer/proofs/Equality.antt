-- The derived `==` of subjects is equality of kind and text.
use Rattle.std.proofs.Common.{◌≡◌, ap}
use Rattle.std.specs.Bool.{Decides}
use Rattle.sig_base.proofs.Decisions.{decides_same, decides_bytes}
use Rattle.sig_signer.specs.contracts.subject.CertificateSubjectPartialEq.TheImpl as subject_eq
use Rattle.sig_signer.specs.declared.subject.CertificateSubject.{CertificateSubject}
use Rattle.sig_signer.specs.declared.subject.CertificateSubject.TheVariants.{Email, Uri}

pub subject_eq-tells : (a b : CertificateSubject) → Decides ((subject_eq.ghosts).eq a b) (a ≡ b)
subject_eq-tells (Email t) (Email u) = decides_same _ (λ e. ap Email e) (λ e. cc) (decides_bytes t u)
subject_eq-tells (Email t) (Uri u) = (λ e. absurd cc, λ e. absurd cc)
subject_eq-tells (Uri t) (Email u) = (λ e. absurd cc, λ e. absurd cc)
subject_eq-tells (Uri t) (Uri u) = decides_same _ (λ e. ap Uri e) (λ e. cc) (decides_bytes t u)
