-- In the order of reading: the theorem through the C interface (Raw), from the exported function's promise (Exported), and that this is about something
-- (Example).
pub mod Raw
pub mod Exported
pub mod Example
