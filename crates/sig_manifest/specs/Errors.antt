-- What an error of a manifest's JSON is as an error of the manifest.
use Rattle.sig_json.specs.declared.error.JsonError.{JsonError}
use Rattle.sig_json.specs.declared.error.JsonError.TheVariants as json
use Rattle.sig_manifest.specs.declared.error.ManifestError.{ManifestError}
use Rattle.sig_manifest.specs.declared.error.ManifestError.TheVariants as manifest

abbrev pub of_json : JsonError → ManifestError
of_json json.NotJson = manifest.NotJson
of_json json.Float = manifest.Float
of_json json.Member = manifest.Member
of_json json.OutOfMemory = manifest.OutOfMemory
