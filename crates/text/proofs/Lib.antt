pub mod Order
pub mod Decimal
pub mod Puts
pub mod Filling
