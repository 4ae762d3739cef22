pub mod Bytes
pub mod Tables
pub mod Image
pub mod Layout
pub mod Places
