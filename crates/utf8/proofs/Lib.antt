pub mod Computed
pub mod Laws
