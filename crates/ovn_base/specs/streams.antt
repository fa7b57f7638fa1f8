-- Sources and sinks of bytes, and the failures that they count.
pub mod Causes
pub mod WhereTold
pub mod MemorySink
pub mod MemorySource
