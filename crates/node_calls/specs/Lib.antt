pub mod NodeCalls
