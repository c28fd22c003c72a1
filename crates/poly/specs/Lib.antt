-- Polynomials with coefficients 0 and 1. `Poly`, `Cells` and `Register` are what a reader has to believe.
-- `Shifts` is what the shifts of a register held as a number give, and is proved to agree with those.
pub mod Poly
pub mod Cells
pub mod Register
pub mod Shifts
