-- The lines of an input, and the buffers that they are read through.
pub mod Lines
pub mod Reading
pub mod Cuts
pub mod WindowState
