-- Laws of clearing and of parts that are lent, which the crates above cite too.
pub mod Clears
