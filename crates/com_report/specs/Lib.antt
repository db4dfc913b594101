pub mod Width
pub mod Written
