-- What is proved of what clients share.
pub mod SettingLaws
pub mod SeenLaws
pub mod DirectLaws
pub mod KeepingLaws
pub mod StoreLaws
pub mod FlyingLaws
pub mod RowStepLaws
pub mod PutLaws
pub mod SameLaws
pub mod WholeVolumeLaws
