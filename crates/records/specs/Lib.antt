-- What a reader has to believe: `Records`. `Steps` is what the functions on the way promise each other.
pub mod Records
pub mod Steps
