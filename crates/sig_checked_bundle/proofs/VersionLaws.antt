-- The version that a media type names, by the reader and by the definition.
use Rattle.std.proofs.Common.{◌≡◌, inl, inr, ℕ, List, Bool, true, false, Option, Some, None, refl, sym, subst}
use Rattle.std.proofs.lemmas.Slice.Eq.{bytes_eq-Decides}
use Rattle.std.specs.Prelude.{bytes_eq, if◌then◌else◌}
use Rattle.sig_base.proofs.OptionSteps.{some_is}
use Rattle.sig_checked_bundle.specs.Version.{media_type, older_media_type, version_of, IsMediaType}
use Rattle.sig_checked_bundle.specs.declared.version.Version.{Version}
use Rattle.sig_checked_bundle.specs.declared.version.Version.TheVariants.{Bundle0_1, Bundle0_2, Bundle0_3}

-- ---- what is read is named

found-named : (text : List ℕ) (found version : Version) → ◌≡◌ {A = Option Version} (Some found) (Some version)
    → IsMediaType text found → IsMediaType text version
found-named text found version is named =
    subst (λ (v : Version). IsMediaType text v) (some_is found version is) named

first-named : (text : List ℕ) (version : Version) (first second third older : Bool)
    → (first ≡ true → text ≡ media_type Bundle0_1) → (second ≡ true → text ≡ media_type Bundle0_2)
    → (third ≡ true → text ≡ media_type Bundle0_3) → (older ≡ true → text ≡ older_media_type)
    → (if first then Some Bundle0_1 else if second then Some Bundle0_2 else if third then Some Bundle0_3 else if older
    then Some Bundle0_3 else None) ≡ Some version
    → IsMediaType text version
first-named text version true second third older one two three old is =
    found-named text Bundle0_1 version is (inl (one refl))
first-named text version false true third older one two three old is =
    found-named text Bundle0_2 version is (inl (two refl))
first-named text version false false true older one two three old is =
    found-named text Bundle0_3 version is (inl (three refl))
first-named text version false false false true one two three old is =
    found-named text Bundle0_3 version is (inr (old refl, refl))
first-named text version false false false false one two three old is = absurd cc

pub version-held : (text : List ℕ) (version : Version) → version_of text ≡ Some version → IsMediaType text version
version-held text version is =
    first-named text version (bytes_eq text (media_type Bundle0_1)) (bytes_eq text (media_type Bundle0_2))
    (bytes_eq text (media_type Bundle0_3)) (bytes_eq text older_media_type)
    ((bytes_eq-Decides text (media_type Bundle0_1)).0) ((bytes_eq-Decides text (media_type Bundle0_2)).0)
    ((bytes_eq-Decides text (media_type Bundle0_3)).0) ((bytes_eq-Decides text older_media_type).0) is

-- ---- what is named is read

name-read : (version : Version) → version_of (media_type version) ≡ Some version
name-read Bundle0_1 = refl
name-read Bundle0_2 = refl
name-read Bundle0_3 = refl

pub version-meant : (text : List ℕ) (version : Version) → IsMediaType text version → version_of text ≡ Some version
version-meant text version (inl is) =
    subst (λ (t : List ℕ). version_of t ≡ Some version) (sym is) (name-read version)
version-meant text version (inr is) =
    rw is.1 (subst (λ (t : List ℕ). version_of t ≡ Some Bundle0_3) (sym is.0) refl)

-- a text that is refused names no version
pub unnamed : (text : List ℕ) → version_of text ≡ None → (version : Version) → ¬ IsMediaType text version
unnamed text none version named = let read : version_of text ≡ Some version = version-meant text version named in cc
