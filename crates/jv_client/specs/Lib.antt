-- The definitions that contracts cite.
pub mod promise
pub mod ClientValue
pub mod Direct
pub mod Held
pub mod Ending
pub mod UnderWay
pub mod Reading
pub mod Flushing
pub mod Transacting
pub mod Changing
pub mod Stats
pub mod Getting
pub mod YardUse
pub mod Failures
pub mod CacheUse
pub mod Makes
