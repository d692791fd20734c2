pub mod Bits
pub mod AllSet
pub mod CountLaws
pub mod Witnesses
