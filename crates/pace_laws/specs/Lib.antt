pub mod Budgets
pub mod Lasting
pub mod Ends
pub mod Sames
