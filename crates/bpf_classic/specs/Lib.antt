-- Definitions, in the order in which they read best.
-- the greatest sizes
pub mod Limits
-- the codes of instructions
pub mod Codes
-- Linux's auxiliary data
pub mod Auxiliary
-- the machine, and what a filter answers
pub mod Machine
-- which instructions are filters
pub mod Valid
-- what is said of those that are none
pub mod Refused
-- Definitions, in the order in which they read best.
-- the bytes of `struct sock_filter`
pub mod Bytes
-- the text of `tcpdump -ddd` and `tcpdump -dd`
pub mod Text
-- the text of `tcpdump -d`
pub mod Listing
-- Definitions, in the order in which they read best.
-- what each instruction of a filter becomes
pub mod Template
-- how long the longest way through a program is
pub mod Longest
-- what is known in front of each instruction
pub mod Flow
-- what a program is to answer
pub mod Meaning
-- what filters with loops answer
pub mod Turns
