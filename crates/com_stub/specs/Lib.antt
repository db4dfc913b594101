pub mod CounterRows
pub mod StubRows
pub mod Tables
