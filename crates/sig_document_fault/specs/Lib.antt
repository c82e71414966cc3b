pub mod BundleTable
pub mod CommonTable
pub mod RootTable
