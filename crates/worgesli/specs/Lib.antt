pub mod Worgesli
