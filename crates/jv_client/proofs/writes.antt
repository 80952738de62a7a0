-- Writes, at once or once there is room.
pub mod WaitingLaws
pub mod WriteAloneLaws
pub mod WriteLaws
pub mod WrittenLaws
