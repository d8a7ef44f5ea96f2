pub mod StackCalls
