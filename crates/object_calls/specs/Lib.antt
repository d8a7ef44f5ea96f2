pub mod ObjectCalls
