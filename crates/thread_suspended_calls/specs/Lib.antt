pub mod ThreadSuspended
