pub mod Records
pub mod Agrees
pub mod Agreement
