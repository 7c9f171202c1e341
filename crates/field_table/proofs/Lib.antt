pub mod BitsLemmas
pub mod HexLemmas
pub mod Narrow
pub mod ReadingLemmas
pub mod SameRef
pub mod ValueLemmas
