-- what comes of a hardening that is explained
pub mod Hardened
