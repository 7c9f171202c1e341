mod Lists
mod Classes
