pub mod ShownValues
pub mod UtcText
