pub mod NewCodes
