pub mod Rows
pub mod Queues
pub mod Opened
pub mod Machines
pub mod Leaves
pub mod Adapters
