pub mod Elements
pub mod Faults
pub mod Integers
pub mod SizedLists
pub mod Steps
pub mod RecordTables
pub mod TextFaults
