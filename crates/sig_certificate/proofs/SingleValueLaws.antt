-- What the extensions of one object identifier say, by how many there are and what the value of the only one is.
use Rattle.std.proofs.Common.{◌≡◌, ◌≤◌, Bool, ℕ, List, [], ◌∷◌, length, Option, Some, None, Ok, Err, refl, sym, ap}
use Rattle.std.proofs.Common.{subst, ◌∙◌, arith, inl, inr}
use Rattle.std.specs.Prelude.{option_map}
use Rattle.sig_der.specs.ObjectIdentifiers as oid
use Rattle.sig_certificate.specs.declared.values.KeyUsage.{KeyUsage as Usage}
use Rattle.sig_certificate.specs.declared.values.BasicConstraints.{BasicConstraints as Constraints}
use Rattle.sig_certificate.specs.declared.profile_error.CertificateValidationError.{CertificateValidationError}
use Rattle.sig_certificate.specs.declared.profile_error.CertificateValidationError.TheVariants.{Malformed}
use Rattle.sig_certificate.specs.Certificate.{Extension, Cert}
use Rattle.sig_certificate.specs.Values.{key_usage_of, purposes_of, has_purpose, basic_constraints_of}
use Rattle.sig_certificate.specs.Profile.{Held, read_as, held, usage, constraints, code_signing}
use Rattle.sig_certificate.specs.Faults.{Says, SayNothing, usages, constraint_lists, purpose_lists, SaysUsage}
use Rattle.sig_certificate.specs.Faults.{SaysConstraints, SaysCodeSigning}
use Rattle.sig_certificate.proofs.ExtensionCountLaws.{held_absent, held_one, held_several}

abbrev pub said : {B : Type 0} → B → Held B
said y = Ok (Some y)

abbrev SaidBy : {A B : Type 0} → (List ℕ → Option A) → (Extension → A → B) → List Extension → Held B → Type 0
SaidBy value_of f es (Err e) = (e ≡ Malformed) × SayNothing es value_of
SaidBy value_of f es (Ok None) = es ≡ []
SaidBy value_of f es (Ok (Some y)) = Says es value_of (λ e x. f e x ≡ y)

held_is : {A B : Type 0} (value_of : List ℕ → Option A) (f : Extension → A → B) (es : List Extension) (h : Held B)
    → held (λ e. option_map (f e) (value_of e.value)) es ≡ h → SaidBy value_of f es h
held_is {B = B} value_of f [] h e = subst (λ (w : Held B). SaidBy value_of f [] w) e refl
held_is {A = A} {B = B} value_of f (x ∷ []) h e = one (value_of x.value) refl e
  where
    one : (o : Option A) → value_of x.value ≡ o → read_as (option_map (f x) o) ≡ h → SaidBy value_of f (x ∷ []) h
    one None is e1 = subst (λ (w : Held B). SaidBy value_of f (x ∷ []) w) e1 (refl, inr (x, (refl, is)))
    one (Some y) is e1 = subst (λ (w : Held B). SaidBy value_of f (x ∷ []) w) e1 (x, (y, (refl, (is, refl))))
held_is {B = B} value_of f (x ∷ y ∷ es) h e =
    let several : 2 ≤ length (x ∷ y ∷ es) = omega arith in
    subst (λ (w : Held B). SaidBy value_of f (x ∷ y ∷ es) w) e (refl, inl several)

held_again : {A B : Type 0} (value_of : List ℕ → Option A) (f : Extension → A → B) (es : List Extension) (h : Held B)
    → SaidBy value_of f es h → held (λ e. option_map (f e) (value_of e.value)) es ≡ h
held_again value_of f es (Ok None) none = held_absent (λ e. option_map (f e) (value_of e.value)) es none
held_again {A = A} {B = B} value_of f es (Ok (Some y)) (x, (a, (one, (is, same)))) =
    held_one (λ e. option_map (f e) (value_of e.value)) es x one
    ∙ ap (λ (o : Option A). read_as (option_map (f x) o)) is
    ∙ ap (λ (w : B). said w) same
held_again value_of f es (Err e) (is, inl several) =
    held_several (λ e. option_map (f e) (value_of e.value)) es several ∙ ap Err (sym is)
held_again {A = A} value_of f es (Err e) (is, inr (x, (one, none))) =
    held_one (λ e. option_map (f e) (value_of e.value)) es x one
    ∙ ap (λ (o : Option A). read_as (option_map (f x) o)) none ∙ ap Err (sym is)

says_map : {A : Type 0} (es : List Extension) (value_of : List ℕ → Option A) (P Q : Extension → A → Type 0)
    → ((e : Extension) (x : A) → P e x → Q e x) → Says es value_of P → Says es value_of Q
says_map es value_of P Q h (e, (x, (one, (is, p)))) = (e, (x, (one, (is, h e x p))))

-- ---- basic constraints

seen : Extension → Constraints → Bool × Constraints
seen e b = (e.critical, b)

pub constraints_absent : (c : Cert) → constraints c ≡ Ok None → constraint_lists c ≡ []
constraints_absent c e = held_is basic_constraints_of (λ x b. (x.critical, b)) (constraint_lists c) (Ok None) e

pub constraints_bad : (c : Cert) (x : CertificateValidationError) → constraints c ≡ Err x → (x ≡ Malformed)
    × SayNothing (constraint_lists c) basic_constraints_of
constraints_bad c x e = held_is basic_constraints_of (λ x b. (x.critical, b)) (constraint_lists c) (Err x) e

pub constraints_say : (c : Cert) (critical : Bool) (b : Constraints) → constraints c ≡ said (critical, b)
    → SaysConstraints c critical b.ca
constraints_say c critical b e =
    says_map (constraint_lists c) basic_constraints_of (λ x y. (x.critical, y) ≡ (critical, b))
    (λ x y. (x.critical ≡ critical) × (y.ca ≡ b.ca))
    (λ x y p. (ap (λ (w : Bool × Constraints). w.0) p, ap (λ (w : Bool × Constraints). w.1.ca) p))
    (held_is basic_constraints_of (λ x b. (x.critical, b)) (constraint_lists c) (said (critical, b)) e)

pub no_constraints : (c : Cert) → constraint_lists c ≡ [] → constraints c ≡ Ok None
no_constraints c e = held_again basic_constraints_of (λ x b. (x.critical, b)) (constraint_lists c) (Ok None) e

pub bad_constraints : (c : Cert) → SayNothing (constraint_lists c) basic_constraints_of → constraints c ≡ Err Malformed
bad_constraints c bad =
    held_again basic_constraints_of (λ x b. (x.critical, b)) (constraint_lists c) (Err Malformed) (refl, bad)

pub said_constraints : (c : Cert) (critical ca : Bool) → SaysConstraints c critical ca
    → (b : Constraints) × ((constraints c ≡ said (critical, b)) × (b.ca ≡ ca))
said_constraints c critical ca (e, (b, (one, (is, (same, authority))))) = (
  b,
  (
    held_again basic_constraints_of (λ x b. (x.critical, b)) (constraint_lists c) (said (critical, b))
        (e, (b, (one, (is, ap (λ (w : Bool). pair_with w b) same)))),
    authority,
  ),
)
  where
    pair_with : Bool → Constraints → Bool × Constraints
    pair_with w b = (w, b)

-- ---- key usage

map_same : {A : Type 0} (o : Option A) → option_map (λ x. x) o ≡ o
map_same None = refl
map_same (Some x) = refl

held_same : {A : Type 0} (read other : Extension → Option A) → ((e : Extension) → read e ≡ other e)
    → (es : List Extension) → held read es ≡ held other es
held_same read other same [] = refl
held_same read other same (e ∷ []) = ap read_as (same e)
held_same read other same (e ∷ f ∷ es) = refl

usage_mapped : (c : Cert) → held (λ e. option_map (λ u. u) (key_usage_of e.value)) (usages c) ≡ usage c
usage_mapped c =
    held_same (λ e. option_map (λ u. u) (key_usage_of e.value)) (λ e. key_usage_of e.value)
    (λ e. map_same (key_usage_of e.value)) (usages c)

pub usage_absent : (c : Cert) → usage c ≡ Ok None → usages c ≡ []
usage_absent c e = held_is key_usage_of (λ x u. u) (usages c) (Ok None) (usage_mapped c ∙ e)

pub usage_bad : (c : Cert) (x : CertificateValidationError) → usage c ≡ Err x → (x ≡ Malformed)
    × SayNothing (usages c) key_usage_of
usage_bad c x e = held_is key_usage_of (λ x u. u) (usages c) (Err x) (usage_mapped c ∙ e)

pub usage_says : (c : Cert) (u : Usage) → usage c ≡ said u → SaysUsage c u.digital_signature u.key_cert_sign
usage_says c u e =
    says_map (usages c) key_usage_of (λ x y. y ≡ u)
    (λ x y. (y.digital_signature ≡ u.digital_signature) × (y.key_cert_sign ≡ u.key_cert_sign))
    (λ x y p. (ap (λ (w : Usage). w.digital_signature) p, ap (λ (w : Usage). w.key_cert_sign) p))
    (held_is key_usage_of (λ x u. u) (usages c) (said u) (usage_mapped c ∙ e))

pub no_usage : (c : Cert) → usages c ≡ [] → usage c ≡ Ok None
no_usage c e = sym (usage_mapped c) ∙ held_again key_usage_of (λ x u. u) (usages c) (Ok None) e

pub bad_usage : (c : Cert) → SayNothing (usages c) key_usage_of → usage c ≡ Err Malformed
bad_usage c bad = sym (usage_mapped c) ∙ held_again key_usage_of (λ x u. u) (usages c) (Err Malformed) (refl, bad)

pub said_usage : (c : Cert) (d k : Bool) → SaysUsage c d k
    → (u : Usage) × ((usage c ≡ said u) × ((u.digital_signature ≡ d) × (u.key_cert_sign ≡ k)))
said_usage c d k (e, (u, (one, (is, bits)))) = (
  u,
  (
    sym (usage_mapped c)
        ∙ held_again key_usage_of (λ x u. u) (usages c) (said u) (e, (u, (one, (is, refl)))),
    bits,
  ),
)

-- ---- extended key usage

pub purposes_absent : (c : Cert) → code_signing c ≡ Ok None → purpose_lists c ≡ []
purposes_absent c e = held_is purposes_of (λ x p. has_purpose oid.code_signing_purpose p) (purpose_lists c) (Ok None) e

pub purposes_bad : (c : Cert) (x : CertificateValidationError) → code_signing c ≡ Err x → (x ≡ Malformed)
    × SayNothing (purpose_lists c) purposes_of
purposes_bad c x e = held_is purposes_of (λ x p. has_purpose oid.code_signing_purpose p) (purpose_lists c) (Err x) e

pub purposes_say : (c : Cert) (is : Bool) → code_signing c ≡ said is → SaysCodeSigning c is
purposes_say c is e = held_is purposes_of (λ x p. has_purpose oid.code_signing_purpose p) (purpose_lists c) (said is) e

pub no_purposes : (c : Cert) → purpose_lists c ≡ [] → code_signing c ≡ Ok None
no_purposes c e = held_again purposes_of (λ x p. has_purpose oid.code_signing_purpose p) (purpose_lists c) (Ok None) e

pub bad_purposes : (c : Cert) → SayNothing (purpose_lists c) purposes_of → code_signing c ≡ Err Malformed
bad_purposes c bad =
    held_again purposes_of (λ x p. has_purpose oid.code_signing_purpose p) (purpose_lists c) (Err Malformed) (refl, bad)

pub said_purposes : (c : Cert) (is : Bool) → SaysCodeSigning c is → code_signing c ≡ said is
said_purposes c is says =
    held_again purposes_of (λ x p. has_purpose oid.code_signing_purpose p) (purpose_lists c) (said is) says
