pub mod Answering
pub mod Giving
pub mod Wording
pub mod Printing
pub mod Settled
