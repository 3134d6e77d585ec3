pub mod Retunes
