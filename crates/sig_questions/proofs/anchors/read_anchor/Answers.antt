use Rattle.std.proofs.Common.{◌≡◌, Result, Ok, Err, inl, inr, sym, ◌∙◌}
use Rattle.sig_base.specs.Answers.{OrMemory}
use Rattle.sig_certificate.specs.Certificate.{Cert}
use Rattle.sig_certificate.specs.declared.error.X509ReadError.{X509ReadError}
use Rattle.sig_certificate.specs.declared.error.X509ReadError.TheVariants.{Der, OutOfMemory}
use Rattle.sig_questions.proofs.anchors.read_anchor.Goals as goal

never_refused : (x : Cert) (e : X509ReadError) → e ≡ Der
    → OrMemory OutOfMemory e (◌≡◌ {A = Result Cert X509ReadError} (Ok x) (Err e)) → ⊥
never_refused x e is (inl memory) = let wrong : Der ≡ OutOfMemory = sym is ∙ memory in cc
never_refused x e is (inr wrong) = cc

pub unreachable-requires : goal.unreachable-requires
unreachable-requires c =
    never_refused c.requires.0 c.in-Err-Der.field-0 c.in-Err-Der.field-0-is
    (c.in-Err-Der.ensures.only c.requires.0 c.requires.1.certificate)
