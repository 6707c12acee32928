mod SamplesSeen
