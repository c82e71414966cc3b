-- What the extensions of one object identifier say, by how many there are.
use Rattle.std.proofs.Common.{◌≡◌, ◌≤◌, false, List, [], ◌∷◌, length, Option, None, Ok, Err, refl, arith}
use Rattle.sig_certificate.specs.declared.profile_error.CertificateValidationError.TheVariants.{Malformed}
use Rattle.sig_certificate.specs.Certificate.{Extension}
use Rattle.std.specs.Prelude.{is_some}
use Rattle.sig_certificate.specs.Names.{general_names_of}
use Rattle.sig_certificate.specs.Trust.{is_named}
use Rattle.sig_certificate.specs.Profile.{held, read_as}

pub held_absent : {A : Type 0} (read : Extension → Option A) (es : List Extension) → es ≡ [] → held read es ≡ Ok None
held_absent read es is = rw is refl

pub held_one : {A : Type 0} (read : Extension → Option A) (es : List Extension) (e : Extension) → es ≡ e ∷ []
    → held read es ≡ read_as (read e)
held_one read es e is = rw is refl

pub held_several : {A : Type 0} (read : Extension → Option A) (es : List Extension) → 2 ≤ length es
    → held read es ≡ Err Malformed
held_several read [] le = absurd (omega arith)
held_several read (e ∷ []) le = absurd (omega arith)
held_several read (e ∷ f ∷ es) le = refl

pub ruleset held_laws = (held_absent, held_one, held_several)

-- ---- alternative names

pub named_absent : (es : List Extension) → es ≡ [] → is_named es ≡ false
named_absent es is = rw is refl

pub named_one : (es : List Extension) (e : Extension) → es ≡ e ∷ [] → is_named es ≡ is_some (general_names_of e.value)
named_one es e is = rw is refl

pub named_several : (es : List Extension) → 2 ≤ length es → is_named es ≡ false
named_several [] le = refl
named_several (e ∷ []) le = absurd (omega arith)
named_several (e ∷ f ∷ es) le = refl

pub ruleset named_laws = (named_absent, named_one, named_several)
