pub mod Audited
pub mod AuditExplanation
pub mod RefusalRows
