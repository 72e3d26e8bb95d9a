-- what is shown of a hardened program
mod HardenedLemmas
