-- Records of chunks, and the names of blocks.
pub mod BlockNames
pub mod Slices
