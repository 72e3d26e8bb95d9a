-- Definitions, in the order in which they read best.
-- what the refusals say whose crates have no table
pub mod Sentences
-- the letters, and the one table
pub mod Letters
-- what each error tells
pub mod Told
