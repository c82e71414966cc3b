pub mod DigestTexts
pub mod SourceReads
pub mod RequestTexts
pub mod PolicyRules
pub mod Rules
pub mod AuditRequests
