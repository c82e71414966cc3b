pub mod WitnessTable
