pub mod Table
pub mod TableLends
