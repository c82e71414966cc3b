mod AscendingNames
mod ManifestFaults
mod ManifestTables
mod RuleLevels
mod RuleTables
mod ValueRows
mod ValueTables
