pub mod Addresses
pub mod Words
pub mod Inside
pub mod Laws
pub mod Kinds
