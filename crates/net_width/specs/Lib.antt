pub mod Between
pub mod PlanWidths
pub mod Widened
