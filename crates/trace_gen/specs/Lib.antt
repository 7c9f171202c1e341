-- Which definitions stand here, the lowest first.
pub mod Draws
pub mod Sightings
pub mod Numbers
pub mod Headers
pub mod Packets
pub mod Captures
pub mod ReadBack
pub mod SampleJob
