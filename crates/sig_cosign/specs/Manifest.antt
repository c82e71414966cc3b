-- *Built layers*: the layers of a manifest: what is made of each descriptor, with the first layer that has its digest,
-- unless that has an error.
use Rattle.std.specs.Prelude.{◌≡◌, ℕ, List, [], ◌∷◌, bytes_eq, if◌then◌else◌, Option, Some, None, Result, Ok, Err}
use Rattle.sig_base.specs.declared.error.SigstoreError.{SigstoreError}
use Rattle.sig_base.specs.declared.error.SigstoreError.TheVariants.{SigstoreNoVerifiedLayer}
use Rattle.sig_cosign.specs.Layer.{Layer}
use Rattle.sig_cosign.specs.OciLayer.{IsLayerOf}
use Rattle.sig_cosign.specs.Trust.{Trust}
use Rattle.sig_cosign.specs.Unsigned.{digest_of}
use Rattle.sig_cosign.specs.declared.source.ImageLayer.{ImageLayer}
use Rattle.sig_cosign.specs.declared.source.OciDescriptor.{OciDescriptor}

-- the first layer whose bytes have the digest
abbrev pub first_with : List ℕ → List ImageLayer → Option ImageLayer
first_with digest [] = None
first_with digest (l ∷ ls) = if bytes_eq digest (digest_of l.bytes) then Some l else first_with digest ls

-- the layer of a descriptor and its bytes, or `None` if that has an error
abbrev pub IsLayerIf : Trust → List ℕ → OciDescriptor → ImageLayer → Option Layer → Type 0
IsLayerIf trust source d l (Some made) = IsLayerOf trust d l source (Ok made)
IsLayerIf trust source d l None = (e : SigstoreError) × IsLayerOf trust d l source (Err e)

-- the same, or `None` if no layer has the descriptor's digest
abbrev pub IsLayerIn : Trust → List ℕ → OciDescriptor → Option ImageLayer → Option Layer → Type 0
IsLayerIn trust source d None made = made ≡ None
IsLayerIn trust source d (Some l) made = IsLayerIf trust source d l made

abbrev pub with_one : Option Layer → List Layer → List Layer
with_one None rest = rest
with_one (Some made) rest = made ∷ rest

-- the layers of the descriptors, in their order
abbrev pub AreLayersOf : Trust → List ℕ → List ImageLayer → List OciDescriptor → List Layer → Type 0
AreLayersOf trust source layers [] made = made ≡ []
AreLayersOf trust source layers (d ∷ ds) made =
    (one : Option Layer) × ((rest : List Layer) × (IsLayerIn trust source d (first_with d.digest layers) one
    × (AreLayersOf trust source layers ds rest × (made ≡ with_one one rest))))

-- the result for a manifest, the layers that were fetched, and the digest of an image's manifest
abbrev pub IsBuiltOf : Trust → List ℕ → List ImageLayer → List OciDescriptor → Result (List Layer) SigstoreError → Type 0
IsBuiltOf trust source layers ds (Ok []) = ⊥
IsBuiltOf trust source layers ds (Ok (l ∷ ls)) = AreLayersOf trust source layers ds (l ∷ ls)
IsBuiltOf trust source layers ds (Err e) = (e ≡ SigstoreNoVerifiedLayer) × AreLayersOf trust source layers ds []

-- for a private clause: the layers, or the error that there are no layers
abbrev pub or_none : {X : Type 0} → List X → Result (List X) SigstoreError
or_none [] = Err SigstoreNoVerifiedLayer
or_none (x ∷ xs) = Ok (x ∷ xs)
