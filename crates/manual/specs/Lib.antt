pub mod Manual
pub mod Instance
pub mod Agreement
