pub mod Cuts
pub mod Stations
pub mod Cursor
pub mod Laying
pub mod LaidPath
pub mod Lent
