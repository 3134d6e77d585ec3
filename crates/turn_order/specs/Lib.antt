pub mod Flows
pub mod Contenders
pub mod Orders
pub mod Calls
pub mod Laws
