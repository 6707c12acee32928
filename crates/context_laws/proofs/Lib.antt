pub mod MarksLemmas
pub mod MeetingLemmas
pub mod StacksLemmas
