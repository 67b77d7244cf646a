pub mod Circling
