pub mod Late
pub mod Coercing
pub mod Binding
pub mod Ranges
pub mod Invoking
pub mod Standing
