mod PoolAnswers
mod Signers
mod Subjects
mod ComparedLaws
mod Equality
