pub mod AuditLines
pub mod Audited
pub mod RecordLaws
pub mod Records
