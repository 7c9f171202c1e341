pub mod Numbers
pub mod Looked
pub mod Telling
pub mod Turned
pub mod Listed
pub mod Looking
pub mod Never
pub mod Finished
