pub mod Filename
