pub mod RunReads
