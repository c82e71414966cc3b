pub mod Lists
pub mod ShownTexts
pub mod UtcTexts
