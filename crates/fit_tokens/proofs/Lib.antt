pub mod ChangesLemmas
pub mod LogsLemmas
pub mod MeetingLemmas
pub mod StacksLemmas
