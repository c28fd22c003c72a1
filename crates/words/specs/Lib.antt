-- The promises of the calls are `Calls` of the crate codes. `Within` and `Writing` are cited by private functions only.
pub mod Within
pub mod Writing
