pub mod MainCalls
