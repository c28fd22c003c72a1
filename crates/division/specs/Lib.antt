-- `Division` has the promises of the three calls, and `Steps` what is shown of the register of source 000. `Within` has what the private functions
-- promise each other, which a reader of the calls need not know.
pub mod Division
pub mod Steps
pub mod Within
