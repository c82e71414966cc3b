-- The log entry passes if and only if it is the only one, and has what the version demands.
use Rattle.std.proofs.Common.{◌≡◌, ℕ, List, [], ◌∷◌, Option, Some, None, Ok, refl, ap}
use Rattle.sig_base.proofs.ResultSteps.{ok_is}
use Rattle.sig_checked_bundle.specs.Passed.{HasPromise, HasProof, IsMet}
use Rattle.sig_checked_bundle.specs.Profile.{entry_among, lacks, lacks_checkpoint, lacks_promise, lacks_proof}
use Rattle.sig_checked_bundle.specs.Profile.{meets_profile, meets_version, unless_lacking}
use Rattle.sig_checked_bundle.specs.Version.{version_of, IsMediaType}
use Rattle.sig_bundle.specs.declared.material.ProofFields.{ProofFields}
use Rattle.sig_bundle.specs.declared.material.TransparencyLogEntry.{TransparencyLogEntry}
use Rattle.sig_checked_bundle.specs.declared.version.Version.{Version}
use Rattle.sig_checked_bundle.specs.declared.version.Version.TheVariants.{Bundle0_1, Bundle0_2, Bundle0_3}
use Rattle.sig_checked_bundle.proofs.VersionLaws.{version-held, version-meant}

pub sole_entry : (entries : List TransparencyLogEntry) → (entry : TransparencyLogEntry)
    → entry_among entries ≡ Ok entry → entries ≡ entry ∷ []
sole_entry [] entry is = absurd cc
sole_entry (one ∷ []) entry is = ap (λ x. x ∷ []) (ok_is one entry is)
sole_entry (one ∷ other ∷ others) entry is = absurd cc

checkpoint-held : (checkpoint : Option (List ℕ)) → (u : Unit {0}) → unless_lacking (lacks_checkpoint checkpoint) ≡ Ok u
    → (text : List ℕ) × (checkpoint ≡ Some text)
checkpoint-held None u is = absurd cc
checkpoint-held (Some text) u is = (text, refl)

proof-held : (entry : TransparencyLogEntry) → (proof : Option ProofFields) → (u : Unit {0})
    → entry.inclusion_proof ≡ proof
    → unless_lacking (lacks_proof proof) ≡ Ok u → HasProof entry
proof-held entry None u there is = absurd cc
proof-held entry (Some proof) u there is =
    let checkpoint = checkpoint-held proof.checkpoint u is in
    record { proof = proof; included = there; text = checkpoint.0; checkpoint = checkpoint.1 }

promise-held : (entry : TransparencyLogEntry) → (promise : Option (List ℕ)) → (u : Unit {0})
    → entry.inclusion_promise ≡ promise
    → unless_lacking (lacks_promise promise) ≡ Ok u → HasPromise entry
promise-held entry None u there is = absurd cc
promise-held entry (Some promise) u there is = record { promise = promise; promised = there }

met-held : (version : Version) → (entry : TransparencyLogEntry) → (u : Unit {0})
    → unless_lacking (lacks version entry) ≡ Ok u → IsMet version entry
met-held Bundle0_1 entry u is = promise-held entry entry.inclusion_promise u refl is
met-held Bundle0_2 entry u is = proof-held entry entry.inclusion_proof u refl is
met-held Bundle0_3 entry u is = proof-held entry entry.inclusion_proof u refl is

pub profile-held : (text : List ℕ) → (version : Option Version) → (entry : TransparencyLogEntry) → (u : Unit {0})
    → version_of text ≡ version → meets_version text version entry ≡ Ok u
    → (v : Version) × IsMediaType text v × IsMet v entry
profile-held text None entry u named is = absurd cc
profile-held text (Some v) entry u named is = (v, version-held text v named, met-held v entry u is)

met-meant : (version : Version) → (entry : TransparencyLogEntry) → IsMet version entry
    → unless_lacking (lacks version entry) ≡ Ok tt
met-meant Bundle0_1 entry promise = rw promise.promised refl
met-meant Bundle0_2 entry proof = rw (proof.included, proof.checkpoint) refl
met-meant Bundle0_3 entry proof = rw (proof.included, proof.checkpoint) refl

pub profile-meant : (text : List ℕ) → (version : Version) → (entry : TransparencyLogEntry)
    → IsMediaType text version → IsMet version entry
    → meets_profile text entry ≡ Ok tt
profile-meant text version entry named met = rw (version-meant text version named) (met-meant version entry met)
