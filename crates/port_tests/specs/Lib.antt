pub mod Known
pub mod SinkTest
