mod Turns
mod SatisfiedLaws
mod MarkedLaws
mod SubjectLaws
mod ChainLaws
mod KeyLaws
mod KeyedLaws
