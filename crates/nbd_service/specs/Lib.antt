pub mod Retunes
pub mod LeftWrites
pub mod Figures
