pub mod Outsized
