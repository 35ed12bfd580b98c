pub mod OwnedBy
pub mod Finding
pub mod Joining
pub mod Largest
pub mod Carrying
pub mod OneOwner
pub mod Transferring
