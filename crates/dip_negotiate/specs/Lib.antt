pub mod Passes
pub mod Places
pub mod Negotiation
pub mod Demands
pub mod Turns
pub mod DemandsLaw
