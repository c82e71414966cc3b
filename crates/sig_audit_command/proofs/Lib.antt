pub mod Heads
pub mod Lines
pub mod Replies
pub mod AuditReplies
pub mod QuestionReplies
pub mod HeadRows
pub mod SufficientAuditRows
pub mod Keys
