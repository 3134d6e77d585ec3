pub mod Bytes
pub mod Rows
pub mod Payload
pub mod Swept
