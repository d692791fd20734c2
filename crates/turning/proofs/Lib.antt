pub mod CallLaws
pub mod SettingsLaws
pub mod KerbLaws
pub mod ClaimLaws
