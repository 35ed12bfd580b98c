pub mod CutLaws
pub mod Cutting
pub mod TwoBuses
