pub mod AnchorPlaces
