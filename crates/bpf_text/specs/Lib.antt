-- Definitions, in the order in which they read best.
-- characters, and which words are names
pub mod Characters
-- which number a word writes
pub mod Numerals
-- how each part of an instruction is spelled
pub mod Spelling
-- what a line may say
pub mod Statements
-- all parts of instructions
pub mod Parts
-- the tokens of a line, and the forms of instructions
pub mod Grammar
-- what a text says, line by line
pub mod Sources
-- where a line that is refused leaves the language
pub mod Stop
-- which program a text assembles to, or why none
pub mod Assembly
-- the listing of a program
pub mod Listing
-- the listing with comments
pub mod Annotated
-- the numbers of refusals, and the lines that they name
pub mod RefusalNumbers
-- the parts by the word in front
pub mod Lookup
-- what mirrors code
pub mod code
-- laws above these definitions
pub mod Laws
