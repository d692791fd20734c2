pub mod Sights
pub mod Shadows
pub mod Products
pub mod Common
pub mod Apart
pub mod Ranges
pub mod Witnesses
