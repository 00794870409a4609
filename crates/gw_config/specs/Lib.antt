pub mod ConfigTexts
pub mod Settings
