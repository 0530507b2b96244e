-- That the theorem is about something (Example), and that it is false of wrong hosts (Refuted).
pub mod Example
pub mod Refuted
