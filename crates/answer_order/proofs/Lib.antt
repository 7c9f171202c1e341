mod Frames
mod Lists
