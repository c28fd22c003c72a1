pub mod Fitting
pub mod Searching
pub mod Settled
