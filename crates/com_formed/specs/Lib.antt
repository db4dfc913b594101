pub mod Methods
