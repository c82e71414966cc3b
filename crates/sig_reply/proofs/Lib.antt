pub mod FittingLists
pub mod Listings
pub mod RowsTexts
pub mod SchemeTexts
