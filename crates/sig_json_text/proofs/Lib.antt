pub mod CompactTexts
pub mod CanonicalTexts
pub mod Units
pub mod MemberOrder
pub mod KeptOrder
pub mod AscendingMembers
pub mod MemberTexts
pub mod LargeIntegers
