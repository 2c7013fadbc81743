pub mod AuditLemmas
pub mod BootLemmas
