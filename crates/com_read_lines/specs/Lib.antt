pub mod Codes
pub mod Tables
pub mod Rules
pub mod Methods
pub mod Declaring
pub mod Header
pub mod Programs
