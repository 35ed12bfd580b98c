pub mod Buildable
pub mod OpenEdges
pub mod LeafWiring
