pub mod Branches
pub mod Cases
pub mod Ended
pub mod Turns
pub mod Leads
pub mod Fronts
