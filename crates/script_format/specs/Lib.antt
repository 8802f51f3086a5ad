pub mod Rows
pub mod ScriptText
pub mod Reads
pub mod Reading
pub mod Printed
