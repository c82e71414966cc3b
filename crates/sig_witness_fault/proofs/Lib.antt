pub mod WitnessTables
