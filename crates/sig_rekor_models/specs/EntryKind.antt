-- The kinds of entries that Rekor logs, by their names (Rekor's API, the `kind` of a ProposedEntry).
use Rattle.std.specs.Prelude.{ℕ, List, Option, Some, None, codes, if◌then◌else◌}
use Rattle.std.specs.Str.{bytes_eq}
use Rattle.sig_rekor_models.specs.declared.entry_kind.EntryKind.{EntryKind}
use Rattle.sig_rekor_models.specs.declared.entry_kind.EntryKind.TheVariants.{Alpine, Hashedrekord, Helm, Intoto, Jar}
use Rattle.sig_rekor_models.specs.declared.entry_kind.EntryKind.TheVariants.{Rekord, Rfc3161, Rpm, Tuf}

abbrev pub kind_name : EntryKind → List ℕ
kind_name Alpine = codes "alpine"
kind_name Hashedrekord = codes "hashedrekord"
kind_name Helm = codes "helm"
kind_name Intoto = codes "intoto"
kind_name Jar = codes "jar"
kind_name Rekord = codes "rekord"
kind_name Rfc3161 = codes "rfc3161"
kind_name Rpm = codes "rpm"
kind_name Tuf = codes "tuf"

-- the kind that has this name
abbrev pub kind_named : List ℕ → Option EntryKind
kind_named name =
    if bytes_eq name (kind_name Alpine) then Some Alpine else
    if bytes_eq name (kind_name Hashedrekord) then Some Hashedrekord else
    if bytes_eq name (kind_name Helm) then Some Helm else
    if bytes_eq name (kind_name Intoto) then Some Intoto else
    if bytes_eq name (kind_name Jar) then Some Jar else
    if bytes_eq name (kind_name Rekord) then Some Rekord else
    if bytes_eq name (kind_name Rfc3161) then Some Rfc3161 else
    if bytes_eq name (kind_name Rpm) then Some Rpm else
    if bytes_eq name (kind_name Tuf) then Some Tuf else None
