pub mod Listing
