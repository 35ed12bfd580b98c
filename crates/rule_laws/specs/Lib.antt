pub mod RuleRefusals
pub mod DesignRefusals
pub mod Examples
