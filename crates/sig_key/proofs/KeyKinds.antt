-- *Key kind*: each text is of the kind that is computed, and of no other.
use Rattle.std.proofs.Common.{◌≡◌, ℕ, List, Option, Some, None, refl, sym, ap, ◌∙◌}
use Rattle.sig_base.specs.declared.scheme.VerifyScheme.{VerifyScheme}
use Rattle.sig_der.specs.KeyInfo.{KeyInfo, IsKeyInfo, whole_key_info}
use Rattle.sig_der.proofs.Bytes.{IsBytes}
use Rattle.sig_der.proofs.KeyInfos.{whole_key_info_takes, whole_key_info_again}
use Rattle.sig_key.specs.declared.kind.KeyKind.{KeyKind}
use Rattle.sig_key.specs.declared.kind.KeyKind.TheVariants.{NoKeyInfo, Unsupported, Scheme}
use Rattle.sig_key.specs.Kind.{algorithm_scheme, kind_of_scheme, IsKeyInfoOf, IsKind, kind_of_info, key_kind}

of_scheme : (spki : List ℕ) (info : KeyInfo) → IsKeyInfo info → info.whole ≡ spki → (found : Option VerifyScheme)
    → algorithm_scheme info.algorithm ≡ found → IsKind spki (kind_of_scheme found)
of_scheme spki info is whole None e = record { info = info; is = is; whole = whole; kind = e }
of_scheme spki info is whole (Some s) e = record { info = info; is = is; whole = whole; kind = e }

of_info : (spki : List ℕ) → IsBytes spki → (found : Option KeyInfo) → whole_key_info spki ≡ found
    → IsKind spki (kind_of_info found)
of_info spki fits None e = λ info is whole. let no = sym e ∙ whole_key_info_again spki info is whole in cc
of_info spki fits (Some info) e =
    let t = whole_key_info_takes spki fits info e in
    of_scheme spki info t.0 t.1 (algorithm_scheme info.algorithm) refl

pub key_kind_is : (spki : List ℕ) → IsBytes spki → IsKind spki (key_kind spki)
unfolding key_kind
key_kind_is spki fits = of_info spki fits (whole_key_info spki) refl

none_is : (spki : List ℕ) → IsBytes spki → (found : Option KeyInfo) → whole_key_info spki ≡ found
    → IsKind spki NoKeyInfo → NoKeyInfo ≡ kind_of_info found
none_is spki fits None e none = refl
none_is spki fits (Some info) e none = let t = whole_key_info_takes spki fits info e in absurd (none info t.0 t.1)

known : (spki : List ℕ) (found : Option VerifyScheme) → IsKeyInfoOf spki found → kind_of_scheme found ≡ key_kind spki
unfolding key_kind
known spki found h =
    ap (λ (o : Option VerifyScheme). kind_of_scheme o) (sym h.kind)
    ∙ ap (λ (o : Option KeyInfo). kind_of_info o) (sym (whole_key_info_again spki h.info h.is h.whole))

pub key_kind_only : (spki : List ℕ) → IsBytes spki → (kind : KeyKind) → IsKind spki kind → kind ≡ key_kind spki
unfolding key_kind
key_kind_only spki fits NoKeyInfo h = none_is spki fits (whole_key_info spki) refl h
key_kind_only spki fits Unsupported h = known spki None h
key_kind_only spki fits (Scheme s) h = known spki (Some s) h
