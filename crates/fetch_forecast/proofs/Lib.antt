-- In the order of reading: what is counted (Counting), one step (Step), the theorem (Theorem), and that the table buffer stays as it is (Buffer).
pub mod Counting
pub mod Step
pub mod Theorem
pub mod Buffer
