pub mod ManifestFault
pub mod ManifestTable
pub mod Range
pub mod RuleTable
pub mod Values
