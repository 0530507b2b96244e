pub mod Raw
pub mod Exported
