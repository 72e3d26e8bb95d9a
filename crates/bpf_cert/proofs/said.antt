pub mod SaidNumbers
pub mod SaidValues
pub mod SaidStates
pub mod SaidPlaces
pub mod SaidSteps
pub mod SaidLines
