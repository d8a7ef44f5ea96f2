pub mod ThreadStacks
