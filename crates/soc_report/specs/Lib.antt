pub mod Lines
pub mod MapText
pub mod NetlistLine
pub mod TraceLines
