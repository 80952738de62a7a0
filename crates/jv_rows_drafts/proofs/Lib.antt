-- What is proved of small changes.
pub mod CivilDateLaws
pub mod DraftingLaws
pub mod StepLaws
pub mod LengthLaws
pub mod DraftStepLaws
pub mod DraftedLaws
pub mod PresentLaws
pub mod NodeChangeLaws
pub mod EntryChangeLaws
pub mod GoingLaws
pub mod HourLinkLaws
pub mod HourLaws
pub mod HourStepLaws
pub mod TrashTextLaws
