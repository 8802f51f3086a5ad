pub mod Topology
pub mod Tables
pub mod Chunks
pub mod RowChunks
pub mod Shapes
pub mod Cells
