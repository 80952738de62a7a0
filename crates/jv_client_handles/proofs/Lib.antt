-- Laws about open files and what they saw.
pub mod RecordLaws
pub mod TableLaws
pub mod OpenLaws
pub mod SeenLaws
pub mod UnseenLaws
pub mod HandleLaws
