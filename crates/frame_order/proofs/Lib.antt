pub mod Following
mod Groups
mod Items
mod Lists
mod Rows
