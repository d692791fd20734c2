pub mod Ascii
pub mod Decimal
pub mod Inner
pub mod Reading
pub mod Texts
