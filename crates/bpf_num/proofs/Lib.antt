pub mod Parts
pub mod Valid
pub mod ConstantLaws
pub mod TightenLaws
pub mod NumberLaws
pub mod OrderLaws
pub mod RefineLaws
pub mod Examples
