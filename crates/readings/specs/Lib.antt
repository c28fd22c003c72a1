-- `Readings` is what a reader has to believe; `Within` is cited by private functions only.
pub mod Readings
pub mod Taken
pub mod Within
