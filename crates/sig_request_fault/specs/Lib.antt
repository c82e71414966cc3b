pub mod AuditTable
pub mod PolicyTable
pub mod RequestFault
pub mod RequestTable
pub mod RowTable
