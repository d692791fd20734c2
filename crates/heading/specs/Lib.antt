pub mod Turn
pub mod PathTurn
