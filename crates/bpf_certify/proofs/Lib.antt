-- what is certified, and what is refused
mod CertifiedLemmas
