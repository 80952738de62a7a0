-- Lemmas.
pub mod StretchLaws
pub mod NameEndLaws
pub mod NameLaws
pub mod PlanLaws
pub mod BlockLaws
pub mod ListingLaws
pub mod PlanFormLaws
pub mod NeedLaws
