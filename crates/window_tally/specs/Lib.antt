pub mod TallyView
pub mod Choice
pub mod TallyPlaces
pub mod TallyFields
