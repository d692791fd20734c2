pub mod Vector
pub mod Wheelbase
pub mod Length
pub mod Settle
pub mod Drawn
pub mod Run
