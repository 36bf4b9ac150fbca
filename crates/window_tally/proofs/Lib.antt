pub mod PlaceLaws
pub mod PathLaws
pub mod FillLaws
pub mod SetLaws
pub mod RestLaws
pub mod ViewLaws
pub mod KeptLaws
pub mod ChoiceLaws
