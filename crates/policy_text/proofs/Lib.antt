pub mod KeyLemmas
pub mod RowLemmas
pub mod StatedLemmas
pub mod Utf8
pub mod Begins
pub mod BlankLemmas
pub mod Taking
pub mod VacmFaults
