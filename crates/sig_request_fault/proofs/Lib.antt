pub mod AuditTables
pub mod PolicyTables
pub mod RequestFaults
pub mod RequestTables
pub mod RowTables
