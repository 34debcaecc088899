pub mod Named
pub mod Readings
pub mod Accesses
pub mod Composing
pub mod Contexts
pub mod ContextSteps
pub mod Works
