pub mod Lengths
pub mod Texts
pub mod Names
pub mod RoundTrips
