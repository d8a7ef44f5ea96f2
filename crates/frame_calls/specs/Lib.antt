pub mod FrameCalls
