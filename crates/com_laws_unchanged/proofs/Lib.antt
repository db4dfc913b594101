pub mod Apt
pub mod Silent
pub mod Still
pub mod Quiets
pub mod Rests
pub mod Endings
pub mod Rowless
pub mod Issues
