pub mod Machine
pub mod Walk
pub mod Laws
pub mod Simulation
