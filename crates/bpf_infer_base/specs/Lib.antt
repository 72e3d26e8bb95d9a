pub mod RefusalNumbers
pub mod HardenNumbers
