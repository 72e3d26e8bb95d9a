pub mod Told
pub mod Prepared
pub mod Answers
pub mod Loaded
-- Definitions, in the order in which they read best.
-- which contexts are asked for
pub mod Forms
-- what the numbers that C sees tell
pub mod ToldConverted
-- what is made of a filter, and what is refused
pub mod Converted
-- how many bytes do for the certificate
pub mod ConvertSizes
pub mod Texts
pub mod Sizes
pub mod ToldAdvice
pub mod Proposals
pub mod Explained
pub mod Hardened
pub mod Followed
pub mod Trapped
pub mod Certified
