-- What a client in memory stands for.
pub mod CacheUseLaws
pub mod CommittedSegmentLaws
pub mod DirectLaws
pub mod EndingLaws
pub mod GiftLaws
pub mod HeldLaws
pub mod LastHandleLaws
pub mod LimitsLaws
pub mod OthersStepLaws
pub mod StatsLaws
