pub mod Numbers
pub mod Reading
pub mod Naming
pub mod Literals
pub mod Operands
