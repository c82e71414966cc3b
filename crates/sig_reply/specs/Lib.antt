pub mod GivenBack
pub mod NoteRow
pub mod Reply
pub mod RowsText
pub mod SecondLine
