pub mod Subject
pub mod NamedSubject
pub mod Claims
pub mod Signer
pub mod ShownSigner
pub mod Compared
