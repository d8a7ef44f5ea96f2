pub mod TableReads
