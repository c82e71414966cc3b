pub mod LastKeys
pub mod KeyBytes
pub mod ClientConfigs
pub mod RangeEnds
pub mod GivenCertificates
pub mod KeyLaws
