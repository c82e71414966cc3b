pub mod KeyErrors
pub mod KeyKinds
pub mod SignatureTexts
