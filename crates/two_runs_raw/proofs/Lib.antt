-- The law and the theorem through the C interface (Raw); that the theorem is about something, of the customer's set (Example), and the law, of two sets
-- that differ in one byte (Unread).
pub mod Raw
pub mod Example
pub mod Unread
