pub mod BundleTables
pub mod CommonTables
pub mod EntryTables
pub mod Oneofs
pub mod RootTables
