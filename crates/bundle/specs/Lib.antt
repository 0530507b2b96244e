pub mod Bundle
pub mod Content
