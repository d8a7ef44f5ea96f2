pub mod ProtoReads
