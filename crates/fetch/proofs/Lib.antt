-- In the order of reading: laws of lists and tests (Basics), packets that are sent (Sent), the device's bytes (Device), what is lent (Lent), the run with the bytes held
-- (Ghost), the chunk size (Chunk); the invariant (Invariant), and one file a phase that shows it kept (Packet with Cutting and Verdict, Table,
-- Between, Region); refusals that leave all untouched (Still); what the plain host's report says (Meaning); the theorem (Theorem), and how it goes over to
-- another host (Simulation); of any list of steps: the counter of memory reads (Counter), and that no number passes what was lent (Within); lists that can be
-- computed (Played). That the theorem is about something, and false of wrong hosts, is computed in the crate fetch_shown.
pub mod Basics
pub mod Sent
pub mod Device
pub mod Lent
pub mod Ghost
pub mod Chunk
pub mod Invariant
pub mod Cutting
pub mod Verdict
pub mod Packet
pub mod Table
pub mod Between
pub mod Region
pub mod Still
pub mod Meaning
pub mod Theorem
pub mod Simulation
pub mod Counter
pub mod Within
pub mod Played
