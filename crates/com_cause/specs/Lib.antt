pub mod CallType
