pub mod TableCalls
