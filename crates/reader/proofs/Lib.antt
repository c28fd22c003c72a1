-- The laws of the clocked reader, each module over some of those above it.
pub mod Rows
pub mod Firing
pub mod Rounds
pub mod Form
pub mod Settled
pub mod Standing
pub mod Mending
pub mod Run
pub mod Answering
pub mod ByHand
pub mod Filling
