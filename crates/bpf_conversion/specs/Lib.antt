-- Definitions, in the order in which they read best.
-- where a slot lies
pub mod Parts
-- what is known there
pub mod Known
-- which slots want a label
pub mod Leaders
-- the certificate
pub mod Claim
-- the law that it certifies the program
pub mod Accepted
-- what is found out about a program before its labels are made
pub mod Outline
-- the listing of a filter's program
pub mod Listed
-- what is made of a filter
pub mod Made
