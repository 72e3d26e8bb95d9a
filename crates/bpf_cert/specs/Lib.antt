-- Definitions, in the order in which they read best.
-- a certificate without where it lies in memory
pub mod View
-- numbers as a text writes them
pub mod Numeral
-- the order of its parts, and the limits
pub mod Limits
-- the forms of lines
pub mod Line
-- the one text of a certificate
pub mod Spelling
-- which line a text is
pub mod Reading
-- why a text is no certificate
pub mod Faults
-- which text is which certificate's
pub mod Certificates
-- the numbers of refusals, and the lines that they name
pub mod RefusalNumbers
-- what is answered of a reader's bytes
pub mod ReadAnswers
-- what a write leaves with a writer
pub mod Written
-- what mirrors code
pub mod code
