pub mod SerialNumbers
pub mod ShownNames
