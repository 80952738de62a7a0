-- Link counts, used space and inodes, and sums over lists.
pub mod CountLaws
pub mod LinkLaws
pub mod ListSumLaws
pub mod RoomLaws
pub mod SumLaws
