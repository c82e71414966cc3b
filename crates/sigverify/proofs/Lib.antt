pub mod RepeatedCalls
