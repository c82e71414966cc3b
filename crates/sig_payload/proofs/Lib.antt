mod Equality
mod Extras
mod PayloadTexts
mod Promises
mod ValueDepths
