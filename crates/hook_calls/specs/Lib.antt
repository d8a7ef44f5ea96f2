pub mod HookCalls
