mod Kept
mod Lists
mod Seats
mod Sharing
mod Together
mod Works
