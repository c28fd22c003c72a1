-- `Settled` and `Steps` have the theorems; the laws that they and the functions' proofs cite stand in the others.
pub mod Growing
pub mod Steps
pub mod Settled
