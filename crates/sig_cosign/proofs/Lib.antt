mod BundleLayers
mod ManifestLayers
mod FirstLayers
mod DescriptorLayers
mod OciLayers
mod SignedLayers
mod LayerSigners
