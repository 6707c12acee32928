pub mod SamplesSeen
