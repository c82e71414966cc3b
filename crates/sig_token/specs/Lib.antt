pub mod Claims
pub mod Compact
pub mod Period
pub mod Seen
pub mod Token
pub mod Unpadded
