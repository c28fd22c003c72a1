-- The laws of polynomials with coefficients 0 and 1, each module over some of those above it.
pub mod Sum
pub mod Horner
pub mod Times
pub mod Computed
pub mod Degree
pub mod Division
pub mod Multiples
pub mod Coefficient
pub mod Cells
pub mod Words
pub mod Stages
pub mod Shifting
pub mod Products
