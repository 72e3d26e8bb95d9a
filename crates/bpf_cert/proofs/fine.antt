pub mod FineLines
pub mod FineParts
pub mod FineValues
pub mod FineOrder
pub mod CertificateFine
