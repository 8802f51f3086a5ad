pub mod TopologyLaws
pub mod ChunkLaws
pub mod StayLaws
pub mod ShapeLaws
