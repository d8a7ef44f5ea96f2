pub mod UpvalueCalls
