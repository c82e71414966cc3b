mod VouchedEntries
mod Equality
mod KindEquality
mod EntryEquality
mod ProposedEquality
pub mod Refusals
mod EntryMembers
mod WrittenMembers
