pub mod ThreadOpens
