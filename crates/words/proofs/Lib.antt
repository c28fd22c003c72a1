pub mod Copying
pub mod Lending
pub mod Settled
